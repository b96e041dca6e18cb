-- G1: a missed cell has a reason, some slots that were overloaded; but where every slot was open and each cell has its flow's declared deadline,
-- cells within an admitted list overload none. What the calls keep gives both, and the missed counts, which never fall, give that
-- none was missed before.
use mathlib.Core.Path.{◌≡◌, refl, sym, ◌∙◌}
use mathlib.Core.Bool.{Bool, true, false, not}
use mathlib.Core.List.{List, [], ◌∷◌, ◌++◌, map}
use Prim.Native.Nat.{◌≤◌, ◌<◌}
use native.Mathlib.Omega.{arith}
use borrow.Author.Tests.{ltb-true}
use lib.ListN.{length}
use Rattle.places.specs.Members.{Each}
use Rattle.places.proofs.Members.{none_passes, none_counted, each_map, each_both, each_made}
use Rattle.places.proofs.Tests.{and_told}
use Rattle.link.specs.declared.Declaration.{Declaration}
use Rattle.link.specs.Published.{Fits, Keeps}
use Rattle.station.specs.declared.Call.{Call}
use Rattle.promises_urgent.specs.Plans.{Overloaded}
use Rattle.promises_urgent.specs.Cells.{Cell, Cells, was_sent, is_missed, window_of, windows}
use Rattle.promises_urgent.specs.Promised.{Windowed, Explained}
use Rattle.promises.specs.Run.{run}
use Rattle.promises.proofs.Promises.{promises}
use Rattle.guarantee.specs.Arrivals.{Arrival, declared, WithinDeclarations, window_in}
use Rattle.guarantee.specs.Conditions.{arrival_of, arrivals, AsDeclared, Conditions, NoneMissed}
use Rattle.guarantee.proofs.Kept.{not_overloaded}
use Rattle.guarantee.proofs.Calls.{EverySlot, every_slot, missed_more, OfOpening, openings, of_opening}

-- a cell has its flow's declared deadline
abbrev Full : List Declaration → Cell → Type 0
Full ds a = a.deadline ≡ (declared ds a.flow).deadline

-- cells with the declared deadlines have the declared windows
same_windows : (ds : List Declaration) (cells : List Cell) → Each (Full ds) cells → map window_of cells ≡ map (window_in ds) (map arrival_of cells)
same_windows ds [] e = refl
same_windows ds (a ∷ cells) e = rw (e.0, same_windows ds cells e.1)

-- a history of open slots and cells within an admitted list has no missed cell
module _ (ds : List Declaration) (fits : Fits ds) (enough : Keeps ds) (h : Cells) (every : EverySlot h)
    (full : Each (Full ds) h.accepted) (within : WithinDeclarations ds (map arrival_of h.accepted))
  where
    not_missed : (a : Cell) → (a.last ≡ (window_of a).last) × (1 ≤ a.deadline) × (a.deadline ≤ a.full) → (is_missed h a ≡ true → Overloaded (windows h) h.usable (window_of a))
        → is_missed h a ≡ false
    not_missed a n why = go (is_missed h a) refl
      where
        go : (b : Bool) → is_missed h a ≡ b → is_missed h a ≡ false
        go false e = e
        go true e =
            let late : a.last < h.slot = ltb-true a.last h.slot (and_told (not (was_sent h.sent a.flow a.number)) _ e).1 in
            absurd (
            not_overloaded ds fits enough (map arrival_of h.accepted) within h.slot (window_of a) (omega (arith, n.1)) (omega (arith, n.0))
            (rw (same_windows ds h.accepted full, every) at (why e))
            )

    none_missed : Windowed h.accepted → Explained h → Each (λ (a : Cell). is_missed h a ≡ false) h.accepted
    none_missed n why =
        each_map _ (λ (a : Cell). is_missed h a ≡ false) (λ a w. not_missed a w.0 w.1) h.accepted
        (each_both _ (λ (a : Cell). is_missed h a ≡ true → Overloaded (windows h) h.usable (window_of a)) h.accepted n why)

-- each accepted cell is of a declared flow and has its full deadline, which is that of an opening: the declared one
all_full : (ds : List Declaration) (calls : List Call) → Conditions ds calls → Each (Full ds) (run calls).cells.accepted
all_full ds calls c =
    each_map _ (Full ds) (λ a w. w.0 ∙ of_opening (AsDeclared ds) (run calls).cells.marks c.opened a w.1.0 w.1.1) (run calls).cells.accepted
    (each_both (λ (a : Cell). a.deadline ≡ a.full) _ (run calls).cells.accepted c.full
    (each_both (OfOpening (run calls).cells.marks) (λ (a : Cell). a.flow < length ds) (run calls).cells.accepted (openings calls)
    (each_made arrival_of (λ (a : Arrival). a.flow < length ds) (run calls).cells.accepted c.others)))

pub G1 : (ds : List Declaration) (calls : List Call) → Conditions ds calls → NoneMissed (run calls).cells
G1 ds calls c =
    record { cells = cells; counts = (promises.U1 calls).missed_add_up ∙ none_counted (is_missed (run calls).cells) (run calls).cells.accepted cells }
  where
    cells : Each (λ (a : Cell). is_missed (run calls).cells a ≡ false) (run calls).cells.accepted
    cells =
        let fits = (promises.A1.admitted ds).0 c.admitted in
        none_missed ds fits.0 fits.1 (run calls).cells (every_slot calls c.turns) (all_full ds calls c) (record { keep = c.keep; others = c.others })
        (promises.U3-windows calls) (promises.U6 calls)

-- their windows are then the declared ones
pub G1-windows : (ds : List Declaration) (calls : List Call) → Conditions ds calls → windows (run calls).cells ≡ map (window_in ds) (arrivals calls)
G1-windows ds calls c = same_windows ds (run calls).cells.accepted (all_full ds calls c)

pub G1-ever : (ds : List Declaration) (xs ys : List Call) → Conditions ds (xs ++ ys) → NoneMissed (run xs).cells
G1-ever ds xs ys c =
    let none : (run xs).cells.missed ≡ 0 = omega (arith, missed_more xs ys, (G1 ds (xs ++ ys) c).counts) in
    record { cells = none_passes (is_missed (run xs).cells) (run xs).cells.accepted (sym (promises.U1 xs).missed_add_up ∙ none); counts = none }
