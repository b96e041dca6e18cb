-- That no call of a list is a lost turn, told by a test.
use mathlib.Core.Path.{◌≡◌}
use mathlib.Core.Logic.{◌≢◌}
use mathlib.Core.Bool.{Bool, true, false, true≢false}
use mathlib.Core.List.{List}
use Rattle.places.specs.Places.{count}
use Rattle.places.proofs.Members.{each_map, none_passes}
use Rattle.station.specs.declared.Call.{Call}
use Rattle.station.specs.declared.Call.TheVariants.{OpenUrgent, OpenFair, CloseUrgent, CloseFair, OfferCell, OfferPacket, OpenTurn, LostTurn, Begin, End}
use Rattle.guarantee.specs.Conditions.{NoneLost}

abbrev pub is_lost : Call → Bool
is_lost (OpenUrgent flow deadline) = false
is_lost (OpenFair flow weight) = false
is_lost (CloseUrgent flow) = false
is_lost (CloseFair flow) = false
is_lost (OfferCell flow deadline) = false
is_lost (OfferPacket flow length) = false
is_lost OpenTurn = false
is_lost LostTurn = true
is_lost Begin = false
is_lost End = false

not_lost : (call : Call) → is_lost call ≡ false → call ≢ LostTurn
not_lost call f e = true≢false (rw e at f)

pub none_lost : (xs : List Call) → count is_lost xs ≡ 0 → NoneLost xs
none_lost xs z = each_map (λ (call : Call). is_lost call ≡ false) (λ (call : Call). call ≢ LostTurn) not_lost xs (none_passes is_lost xs z)
