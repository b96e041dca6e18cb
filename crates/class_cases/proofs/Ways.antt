-- The sessions of a tie, of depth, of refusals and of one class: the definitions compute.
use mathlib.Core.Path.{refl}
use Rattle.units.specs.Refusals.{first_of}
use Rattle.places.specs.Places.{count, first_free}
use Rattle.places.specs.Choice.{comes_before, better, least}
use Rattle.places.specs.Marks.{open_in, in_force}
use Rattle.tags.specs.Tags.{finish_of}
use Rattle.packets.specs.Quotes.{quote_of}
use Rattle.packets.specs.Calls.{open_of as open_queue, put_of, begin_by, end_of as end_in}
use Rattle.fair.specs.Calls.{open_of as fair_open, offer_of as fair_offer, begin_of as fair_begin, end_of as fair_end}
use Rattle.promises_queue.specs.Packets.{was_begun}
use Rattle.promises_queue.specs.Promised.{begun_of}
use Rattle.plans.specs.Numbered.{any_from, list_from}
use Rattle.plans.specs.Plans.{deeper, broken}
use Rattle.tree.specs.Tree.{tree_of}
use Rattle.descent.specs.Descent.{descend_of}
use Rattle.ascent.specs.Ascent.{climb, offered_to, passes, passes_for, begun_from, ended_from}
use Rattle.classes.specs.Calls.{open_of, close_of, offer_of, begin_of, end_of, answers}
use Rattle.one_class.specs.OneClass.{fair_answers}
use Rattle.promises_classes.specs.Events.{packets_in}
use Rattle.promises_classes.specs.Rules.{start_tag}
use Rattle.promises_classes.specs.Views.{any_of, way_from, sends, child_on, seen}
use Rattle.promises_classes.specs.Answering.{length_in, begun_noted, answers_noted}
use Rattle.class_cases.specs.Table.{served}
use Rattle.class_cases.specs.Ways.{Ways}

pub ways : Ways
unfolding served broken deeper any_from close_of answers open_of offer_of begin_of end_of first_of count first_free comes_before better least finish_of list_from tree_of descend_of climb offered_to passes passes_for begun_from ended_from answers_noted begun_noted length_in open_in in_force was_begun begun_of packets_in start_tag any_of way_from sends child_on seen fair_answers fair_open fair_offer fair_begin fair_end open_queue put_of quote_of begin_by end_in
ways =
    record {
      tie = record { kept = refl; answered = refl; noted = refl };
      deep = record { kept = refl; answered = refl; noted = refl };
      refusals = record { kept = refl; answered = refl; noted = refl };
      case_b = record { kept = refl; answered = refl; noted = refl };
      fair = refl;
    }
