-- The wrong lanes shut out. What is told computes, of the lane and of the wrong one; and by the rules either the start is another, or a child comes
-- before one that the wrong lane went to.
use mathlib.Core.Path.{◌≡◌, refl, sym, ap, ◌∙◌}
use mathlib.Core.Bool.{false, true≢false}
use Prim.Native.Nat.{ℕ}
use native.Mathlib.Omega.{arith}
use lib.Dec.{eqb}
use lib.ListN.{get_or}
use borrow.Author.Tests.{eq-eqb}
use Rattle.units.specs.Answers.{Told}
use Rattle.units.specs.Refusals.{first_of}
use Rattle.places.specs.Places.{count, first_free}
use Rattle.places.specs.Choice.{comes_before, better, least}
use Rattle.places.specs.Marks.{in_force}
use Rattle.tags.specs.Tags.{finish_of}
use Rattle.promises_queue.specs.Packets.{was_begun}
use Rattle.plans.specs.Numbered.{any_from, list_from}
use Rattle.tree.specs.Tree.{tree_of}
use Rattle.descent.specs.Descent.{descend_of}
use Rattle.ascent.specs.Ascent.{climb, offered_to, passes, passes_for, begun_from, ended_from}
use Rattle.classes.specs.Calls.{open_of, offer_of, begin_of, end_of}
use Rattle.promises_classes.specs.Events.{packets_in}
use Rattle.promises_classes.specs.Rules.{a_class, a_flow, start_tag}
use Rattle.promises_classes.specs.Views.{any_of, way_from, sends, child_on, seen}
use Rattle.promises_classes.specs.Run.{run_from}
use Rattle.class_cases.specs.Table.{served}
use Rattle.class_cases.specs.Parts.{run_by}
use Rattle.class_cases.specs.Wrong.{down_by}
use Rattle.class_cases.specs.ShutOut.{ShutOut}

-- two numbers that differ
unlike : (a b : ℕ) → eqb a b ≡ false → a ≡ b → ⊥
unlike a b n e = true≢false (sym (eq-eqb a b e) ∙ n)

-- two tellings of a begin that differ in the flow
flows : {a b : Told} → eqb (get_or a.values 0 0) (get_or b.values 0 0) ≡ false → a ≡ b → ⊥
flows n e = unlike _ _ n (ap (λ (t : Told). get_or t.values 0 0) e)

-- and two that differ in the start
starts : {a b : Told} → eqb (get_or a.values 3 0) (get_or b.values 3 0) ≡ false → a ≡ b → ⊥
starts n e = unlike _ _ n (ap (λ (t : Told). get_or t.values 3 0) e)

pub shut_out : ShutOut
unfolding served run_from run_by down_by open_of offer_of begin_of end_of first_of count first_free comes_before better least finish_of list_from tree_of descend_of climb offered_to passes passes_for begun_from ended_from in_force was_begun packets_in start_tag any_from any_of way_from sends child_on seen
shut_out =
    record {
      root_stands_lem =
          record {
            lane = refl;
            wrong = refl;
            apart = starts refl;
            unsettled = λ s. unlike 0 720720 refl s.start_told;
          };
      deep_wrong_lem =
          record {
            lane = refl;
            wrong = refl;
            apart = flows refl;
            unsettled = λ s. true≢false (s.way.0.1 (a_class 3) (omega arith, omega arith, refl) refl);
          };
      forgets_start_lem =
          record {
            lane = refl;
            wrong = refl;
            apart = flows refl;
            unsettled = λ s. true≢false (s.way.1.0.1 (a_class 1) (omega arith, omega arith, refl) refl);
          };
      time_kept_lem =
          record {
            lane = refl;
            wrong = refl;
            apart = starts refl;
            unsettled = λ s. unlike 0 720720 refl s.start_told;
          };
      weight_ignored_lem =
          record {
            lane = refl;
            wrong = refl;
            apart = starts refl;
            unsettled = λ s. unlike 720720 360360 refl s.start_told;
          };
      flow_first_lem =
          record {
            lane = refl;
            wrong = refl;
            apart = flows refl;
            unsettled = λ s. true≢false (s.way.0.1 (a_class 1) (omega arith, omega arith, refl) refl);
          };
      starts_at_time_lem =
          record {
            lane = refl;
            wrong = refl;
            apart = starts refl;
            unsettled = λ s. unlike 0 720720 refl s.start_told;
          };
      last_ended_lem =
          record {
            lane = refl;
            wrong = refl;
            apart = starts refl;
            unsettled = λ s. unlike 720720 1441440 refl s.start_told;
          };
      last_finish_forgotten_lem =
          record {
            lane = refl;
            wrong = refl;
            apart = flows refl;
            unsettled = λ s. true≢false (s.way.0.1 (a_flow 1) (omega arith, refl) refl);
          };
      root_time_only_lem =
          record {
            lane = refl;
            wrong = refl;
            apart = starts refl;
            unsettled = λ s. unlike 720720 0 refl s.start_told;
          };
    }
