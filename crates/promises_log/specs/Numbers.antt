-- The answers of reader and writer beside the numbers and the values that the rules give them.
use Rattle.std.specs.Prelude.{◌≡◌, [], ◌∷◌, ℕ, Ok, Err}
use Rattle.log_format.specs.declared.Form.TheVariants.{Flow, Own}
use Rattle.log_format.specs.declared.Fault.TheVariants.{FirstByte, TableField, BadRecord, EndsEarly, ByteTooMany}
use Rattle.log_format.specs.declared.Unwritten.TheVariants.{BadRecord as BadAt, TooLong}
use Rattle.log_format.specs.Refusals.{verdict_told, written_told}

pub record AnswersNumbered : Type 0 where
  -- a log is told by its first byte and its three counts: 1 where its cells have their flows' deadlines, 2 where they have their own
  pub good_flow :
      (urgent fair events : ℕ)
      → verdict_told (Ok (record { form = Flow; urgent = urgent; fair = fair; events = events })) ≡ record { number = 0; values = 1 ∷ urgent ∷ fair ∷ events ∷ [] }
  pub good_own :
      (urgent fair events : ℕ)
      → verdict_told (Ok (record { form = Own; urgent = urgent; fair = fair; events = events })) ≡ record { number = 0; values = 2 ∷ urgent ∷ fair ∷ events ∷ [] }
  -- a refusal of the reader by its number and its place
  pub first_byte : (place : ℕ) → verdict_told (Err (record { fault = FirstByte; place = place })) ≡ record { number = 20; values = place ∷ [] }
  pub table_field : (place : ℕ) → verdict_told (Err (record { fault = TableField; place = place })) ≡ record { number = 21; values = place ∷ [] }
  pub bad_record : (place : ℕ) → verdict_told (Err (record { fault = BadRecord; place = place })) ≡ record { number = 22; values = place ∷ [] }
  pub ends_early : (place : ℕ) → verdict_told (Err (record { fault = EndsEarly; place = place })) ≡ record { number = 23; values = place ∷ [] }
  pub byte_too_many : (place : ℕ) → verdict_told (Err (record { fault = ByteTooMany; place = place })) ≡ record { number = 24; values = place ∷ [] }
  -- the writer's: a bad record by its position, a log that is too long by no value, a log that is written by its length
  pub bad_at : (position : ℕ) → written_told (Err (BadAt position)) ≡ record { number = 22; values = position ∷ [] }
  pub too_long : written_told (Err TooLong) ≡ record { number = 26; values = [] }
  pub written : (n : ℕ) → written_told (Ok n) ≡ record { number = 0; values = n ∷ [] }
