-- A choice by a test that is known.
use mathlib.Core.Path.{◌≡◌}
use mathlib.Core.Bool.{Bool, true, false, cond}

pub where_true : {A : Type 0} (t : Bool) (x y : A) → t ≡ true → x ≡ cond t x y
where_true t x y e = rw e

pub where_false : {A : Type 0} (t : Bool) (x y : A) → t ≡ false → y ≡ cond t x y
where_false t x y e = rw e
