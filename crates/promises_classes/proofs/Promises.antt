-- The promises of the class lane, each by the law that proves it.
use Rattle.classes.proofs.Refused.{answered_in_kind, refused_same, refused_first, grounds_in_order}
use Rattle.planting.proofs.Rightly.{sets_up_rightly}
use Rattle.one_class.proofs.OneClass.{one_class_fair}
use Rattle.promises_classes.specs.Promises.{ClassPromises}
use Rattle.promises_classes.proofs.Account.{t2_tags, t2_begin, t4_places, t4_counts, t5_offers, t5_numbers, t5_few, t5_ends, t5_terms, t5_time}
use Rattle.promises_classes.proofs.Noted.{t3_noted}
use Rattle.promises_classes.proofs.Answering.{t2_answers}

pub class_promises : ClassPromises
class_promises =
    record {
      T0 = sets_up_rightly;
      T1 = one_class_fair;
      T2-tags = t2_tags;
      T2-begin = t2_begin;
      T2-answers = t2_answers;
      T3-kind = answered_in_kind;
      T3-same = refused_same;
      T3-first = refused_first;
      T3-order = grounds_in_order;
      T3-noted = t3_noted;
      T4-places = t4_places;
      T4-counts = t4_counts;
      T5-offers = t5_offers;
      T5-numbers = t5_numbers;
      T5-few = t5_few;
      T5-ends = t5_ends;
      T5-terms = t5_terms;
      T5-time = t5_time;
    }
