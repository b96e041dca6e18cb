-- What is found in parts of the bytes, as it is answered; and what the table states.
use Rattle.std.specs.Prelude.{Bool, not, List, [], ◌∷◌, ℕ, ◌+◌, eqb, length, Option, None, Some, Result, Ok, Err}
use Rattle.log_format.specs.declared.Fault.{Fault}
use Rattle.log_format.specs.declared.Flaw.{Flaw}
use Rattle.log_format.specs.Faults.{four_at, form_at}
use Rattle.log_format.specs.Reading.{Part, field, table_parts, first_fault}
use Rattle.log_table.specs.declared.Layout.{Layout}
use Rattle.log_table.specs.declared.Lengths.{Lengths}

abbrev pub flaw_of : Fault × ℕ → Flaw
flaw_of found = record { fault = found.0; place = found.1 }

-- a value, unless something is found
abbrev pub unless : {A : Type 0} → Option (Fault × ℕ) → A → Result A Flaw
unless None x = Ok x
unless (Some found) x = Err (flaw_of found)

-- in some parts of so many bytes
abbrev pub found_in : ℕ → List Part → Result (Unit {0}) Flaw
found_in n parts = unless (first_fault n parts) tt

-- ---- the table
-- the lengths that it states
abbrev pub lengths_of : List ℕ → Lengths
lengths_of s = record { urgent = four_at s 5; fair = four_at s 13; events = four_at s 21 }

-- what it states, be it right or wrong
abbrev pub layout_of : List ℕ → Layout
layout_of s = record { form = form_at s; urgent = four_at s 5; fair = four_at s 13; events = four_at s 21 }

-- the answer: what the table states, where nothing is wrong in the first byte and the table
abbrev pub layout_told : List ℕ → Result Layout Flaw
layout_told s = unless (first_fault (length s) (table_parts s)) (layout_of s)

-- the entry at a place, whose offset should be this, and whose length is bad or not
abbrev pub entry : List ℕ → ℕ → ℕ → Bool → List Part
entry s at right bad = field at (not (eqb (four_at s at) right)) ∷ field (at + 4) bad ∷ []
