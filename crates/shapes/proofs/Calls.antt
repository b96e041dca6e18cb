-- Calls that are told by the shape of a line: where each has a shape of its own, a line is read as a call exactly where it is that
-- shape's one text.
use Rattle.std.specs.Prelude.{Option, None, Some}
use Rattle.std.specs.Option.{option_and_then}
use Rattle.std.proofs.lemmas.Option.{same_Some, none-some}
use mathlib.Core.Path.{◌≡◌, refl, sym, ◌∙◌, ap, transport, transport⁻¹}
use mathlib.Core.Bool.{Bool, true, false, cond}
use mathlib.Core.List.{List}
use Prim.Native.Nat.{ℕ, ◌≤◌}
use borrow.Author.Tests.{eqb-true}
use lib.Dec.{eqb}
use lib.ListN.{length}
use Rattle.shapes.specs.declared.Shape.{Shape}
use Rattle.shapes.specs.Shapes.{shape_of, text_of, Small}
use Rattle.shapes.proofs.Texts.{has_one_text, texts_fit}

module _ {C : Type 0} (shaped : C → Shape) where
  -- a call that is chosen by a letter has the letter's shape, where the first choice has that of its own letter, and so have the later ones
  pub chosen : (at-letter : ℕ → Shape) (letter own : ℕ) (x : C) (o : Option C) (c : C) → cond (eqb letter own) (Some x) o ≡ Some c
      → at-letter own ≡ shaped x → (o ≡ Some c → at-letter letter ≡ shaped c) → at-letter letter ≡ shaped c
  chosen at-letter letter own x o c e here later = go (eqb letter own) refl e
    where
      go : (t : Bool) → eqb letter own ≡ t → cond t (Some x) o ≡ Some c → at-letter letter ≡ shaped c
      go true l e = ap at-letter (eqb-true letter own l) ∙ here ∙ ap shaped (same_Some x c e)
      go false l e = later e

  module _ (call_in : Shape → Option C) (text : C → List ℕ) (Fits : C → Type 0) where
    -- a call's shape tells the call, and has its text and its numbers
    abbrev pub Tells : C → Type 1
    Tells c = (call_in (shaped c) ≡ Some c) × (text_of (shaped c) ≡ text c) × (Fits c ≡ Small (shaped c))

    module _ (tells : (c : C) → Tells c) where
      -- no text of a call is longer than 23 bytes
      pub fits : (c : C) → Fits c → length (text c) ≤ 23
      fits c f = let t = tells c in rw (sym t.1) (texts_fit (shaped c) (transport t.2 f))

      -- a line is read as a call exactly where it is the call's one text
      module _ (told : (s : Shape) (c : C) → call_in s ≡ Some c → s ≡ shaped c) (line : List ℕ) where
        is_text : (c : C) → option_and_then call_in (shape_of line) ≡ Some c → (line ≡ text c) × Fits c
        is_text c e = go (shape_of line) refl e
          where
            go : (o : Option Shape) → shape_of line ≡ o → option_and_then call_in o ≡ Some c → (line ≡ text c) × Fits c
            go None p e = absurd (none-some c e)
            go (Some s) p e =
                let t = tells c in
                let w = (has_one_text line).0 (shaped c) (p ∙ ap Some (told s c e)) in
                (w.0 ∙ t.1, transport⁻¹ t.2 w.1)

        reads_text : (c : C) → line ≡ text c → Fits c → option_and_then call_in (shape_of line) ≡ Some c
        reads_text c e f =
            let t = tells c in
            ap (option_and_then call_in) ((has_one_text line).1 (shaped c) (e ∙ sym t.1) (transport t.2 f)) ∙ t.0

        other : ((c : C) → line ≡ text c → Fits c → ⊥) → option_and_then call_in (shape_of line) ≡ None
        other f = go (option_and_then call_in (shape_of line)) refl
          where
            go : (o : Option C) → option_and_then call_in (shape_of line) ≡ o → option_and_then call_in (shape_of line) ≡ None
            go None e = e
            go (Some c) e = let w = is_text c e in absurd (f c w.0 w.1)

        pub reads : ((c : C) → option_and_then call_in (shape_of line) ≡ Some c → (line ≡ text c) × Fits c)
            × ((c : C) → line ≡ text c → Fits c → option_and_then call_in (shape_of line) ≡ Some c)
            × (((c : C) → line ≡ text c → Fits c → ⊥) → option_and_then call_in (shape_of line) ≡ None)
        reads = (is_text, reads_text, other)
