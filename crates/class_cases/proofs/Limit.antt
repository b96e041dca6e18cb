-- The begins at the largest tag: the definitions compute.
use mathlib.Core.Path.{refl}
use Rattle.units.specs.Refusals.{first_of}
use Rattle.places.specs.Places.{count, first_free}
use Rattle.places.specs.Choice.{comes_before, better, least}
use Rattle.places.specs.Marks.{in_force}
use Rattle.tags.specs.Tags.{finish_of}
use Rattle.promises_queue.specs.Packets.{was_begun}
use Rattle.promises_queue.specs.Promised.{begun_of}
use Rattle.plans.specs.Numbered.{any_from, list_from}
use Rattle.tree.specs.Tree.{tree_of}
use Rattle.descent.specs.Descent.{descend_of}
use Rattle.ascent.specs.Ascent.{climb, offered_to, passes, passes_for, begun_from, ended_from}
use Rattle.classes.specs.Calls.{open_of, offer_of, begin_of, end_of, answers}
use Rattle.promises_classes.specs.Run.{run_from}
use Rattle.promises_classes.specs.Events.{packets_in}
use Rattle.promises_classes.specs.Rules.{start_tag}
use Rattle.promises_classes.specs.Views.{any_of, way_from, sends, child_on, seen}
use Rattle.class_cases.specs.Limit.{Limit}

pub limit : Limit
unfolding run_from answers open_of offer_of begin_of end_of first_of count first_free comes_before better least finish_of list_from tree_of descend_of climb offered_to passes passes_for begun_from ended_from any_from in_force was_begun begun_of packets_in start_tag any_of way_from sends child_on seen
limit =
    record {
      six = refl;
      six_of_flow = refl;
      six_of_middle = refl;
      goes = refl;
      finish = refl;
      other = refl;
      beside = refl;
      noted_within = refl;
      noted_past = refl;
      noted_middle = refl;
    }
