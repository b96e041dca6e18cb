-- A call is refused exactly for the first of its grounds that holds, and then leaves the lane as it was: both as the queue has it.
use mathlib.Core.Path.{◌≡◌, refl, ◌∙◌}
use Rattle.std.proofs.Common.{Option, Some}
use Rattle.units.specs.declared.Refusal.{Refusal}
use Rattle.units.specs.declared.Tag.{Tag}
use Rattle.units.proofs.Refusals.{passed_first, passed_same}
use Rattle.packets.specs.Kept.{Kept, Flows}
use Rattle.packets.specs.Answers.{refusal_in, start_told}
use Rattle.packets.specs.Queue.{flow_at, by_start}
use Rattle.packets.specs.Quotes.{quote_of}
use Rattle.packets.specs.Calls.{open_of as open_in, close_of as close_in, begin_by, end_of as end_in}
use Rattle.packets.proofs.Quotes.{quoted_first}
use Rattle.packets.proofs.Refused.{refused_first as queue-first}
use Rattle.fair.specs.declared.Fair.{Fair}
use Rattle.fair.specs.declared.Done.{Done}
use Rattle.fair.specs.Lane.{largest_ended}
use Rattle.fair.specs.Calls.{refused, with_flows, by_flows, with_queue, by_queue, open_of, close_of, stamped, offer_of, begin_of, time_left, end_of}
use Rattle.fair.specs.Laws.{RefusedFirst, RefusedSame}

abbrev refusal_of : Done → Option Refusal
refusal_of d = refusal_in d.answer

module _ (u : Fair) where
  flows_first : (d : Flows) → refusal_in (by_flows u d).answer ≡ refusal_in d.answer
  flows_first d = passed_first (refused u) refusal_of (λ r. refl) (refusal_in d.answer) (with_flows u d) refl

  first : (time largest : Tag) (d : Kept) → refusal_in (by_queue u time largest d).answer ≡ refusal_in d.answer
  first time largest d = passed_first (refused u) refusal_of (λ r. refl) (refusal_in d.answer) (with_queue time largest d) refl

  pub refused_first : RefusedFirst u
  unfolding open_of close_of offer_of begin_of end_of
  refused_first =
      let q = queue-first u.queue in
      record {
        opening = λ flow weight. flows_first (open_in u.queue flow weight) ∙ q.opening flow weight;
        closing = λ flow. flows_first (close_in u.queue flow) ∙ q.closing flow;
        offering = λ flow length.
            first u.time u.largest (stamped u flow length)
            ∙ q.putting flow length (quote_of (flow_at u.queue flow) u.time length)
            ∙ quoted_first u.queue flow u.time length;
        beginning =
            first (start_told u.time (begin_by by_start u.queue).answer) u.largest (begin_by by_start u.queue) ∙ q.beginning by_start;
        ending = first (time_left u) (largest_ended u) (end_in u.queue) ∙ q.ending;
      }

  flows_same : (d : Flows) (r : Refusal) → refusal_in (by_flows u d).answer ≡ Some r → (by_flows u d).lane ≡ u
  flows_same d = passed_same (refused u) refusal_of (λ r. refl) (λ (d : Done). d.lane) u (λ r. refl) (refusal_in d.answer) (with_flows u d) refl

  same : (time largest : Tag) (d : Kept) (r : Refusal) → refusal_in (by_queue u time largest d).answer ≡ Some r → (by_queue u time largest d).lane ≡ u
  same time largest d =
      passed_same (refused u) refusal_of (λ r. refl) (λ (d : Done). d.lane) u (λ r. refl) (refusal_in d.answer) (with_queue time largest d) refl

  pub refused_same : (r : Refusal) → RefusedSame u r
  unfolding open_of close_of offer_of begin_of end_of
  refused_same r =
      record {
        opening = λ flow weight. flows_same (open_in u.queue flow weight) r;
        closing = λ flow. flows_same (close_in u.queue flow) r;
        offering = λ flow length. same u.time u.largest (stamped u flow length) r;
        beginning = same (start_told u.time (begin_by by_start u.queue).answer) u.largest (begin_by by_start u.queue) r;
        ending = same (time_left u) (largest_ended u) (end_in u.queue) r;
      }
