-- The station's laws, from the lanes'.
use mathlib.Core.Path.{◌≡◌, refl, ap, ◌∙◌}
use mathlib.Core.Bool.{true, false, true≢false, false≢true}
use Rattle.units.specs.Answers.{number_in}
use Rattle.urgent.specs.declared.Answer.{Answer as UrgentAnswer}
use Rattle.urgent.specs.declared.Answer.TheVariants.{Refused, Opened, Closed, Accepted, Sent, Idle}
use Rattle.urgent.specs.Answers.{told as urgent_told, refusal_in as urgent_refusal}
use Rattle.packets.specs.declared.Answer.{Answer as FairAnswer}
use Rattle.packets.specs.declared.Answer.TheVariants.{Refused as FairRefused, Opened as FairOpened, Closed as FairClosed, Accepted as FairAccepted, Begun, Ended}
use Rattle.packets.specs.Answers.{told as fair_told, refusal_in as fair_refusal}
use Rattle.urgent.specs.declared.Urgent.{Urgent as UrgentLane}
use Rattle.fair.specs.declared.Fair.{Fair as FairLane}
use Rattle.urgent.specs.Calls.{open_of as open_urgent_of, close_of as close_urgent_of, offer_of as offer_cell_of, turn_of}
use Rattle.fair.specs.Calls.{open_of as open_fair_of, close_of as close_fair_of, offer_of as offer_packet_of, begin_of, end_of}
use Rattle.urgent.proofs.Laws.{refused_first as urgent-first, refused_same as urgent_same}
use Rattle.fair.proofs.Refused.{refused_first as fair-first, refused_same as fair_same}
use Rattle.station.specs.declared.Station.{Station}
use Rattle.station.specs.declared.Call.{Call}
use Rattle.station.specs.declared.Call.TheVariants.{OpenUrgent, OpenFair, CloseUrgent, CloseFair, OfferCell, OfferPacket, OpenTurn, LostTurn, Begin, End}
use Rattle.station.specs.declared.Reply.{Reply}
use Rattle.station.specs.declared.Reply.TheVariants.{Urgent, Fair}
use Rattle.station.specs.Answers.{told, refusal_in}
use Rattle.station.specs.Calls.{call_of}
use Rattle.station.specs.Laws.{RefusedFirst, NumberTold, GroundsInOrder, RefusedSame, is_urgent, LanesApart}

pub refused_first : RefusedFirst
unfolding call_of
refused_first s (OpenUrgent flow deadline) = (urgent-first s.urgent).opening flow deadline
refused_first s (OpenFair flow weight) = (fair-first s.fair).opening flow weight
refused_first s (CloseUrgent flow) = (urgent-first s.urgent).closing flow
refused_first s (CloseFair flow) = (fair-first s.fair).closing flow
refused_first s (OfferCell flow deadline) = (urgent-first s.urgent).offering flow deadline
refused_first s (OfferPacket flow length) = (fair-first s.fair).offering flow length
refused_first s OpenTurn = (urgent-first s.urgent).turning true
refused_first s LostTurn = (urgent-first s.urgent).turning false
refused_first s Begin = (fair-first s.fair).beginning
refused_first s End = (fair-first s.fair).ending

urgent_number : (a : UrgentAnswer) → (urgent_told a).number ≡ number_in (urgent_refusal a)
urgent_number (Refused r) = refl
urgent_number Opened = refl
urgent_number Closed = refl
urgent_number (Accepted n l) = refl
urgent_number (Sent f n m) = refl
urgent_number (Idle m) = refl

fair_number : (a : FairAnswer) → (fair_told a).number ≡ number_in (fair_refusal a)
fair_number (FairRefused r) = refl
fair_number FairOpened = refl
fair_number FairClosed = refl
fair_number (FairAccepted n s f) = refl
fair_number (Begun f n l s) = refl
fair_number (Ended f n l) = refl

reply_number : (r : Reply) → (told r).number ≡ number_in (refusal_in r)
reply_number (Urgent a) = urgent_number a
reply_number (Fair a) = fair_number a

pub number_told : NumberTold
number_told s call = reply_number (call_of s call).reply ∙ ap number_in (refused_first s call)

pub grounds_in_order : GroundsInOrder
grounds_in_order s (OpenUrgent flow deadline) = refl
grounds_in_order s (OpenFair flow weight) = refl
grounds_in_order s (CloseUrgent flow) = refl
grounds_in_order s (CloseFair flow) = refl
grounds_in_order s (OfferCell flow deadline) = refl
grounds_in_order s (OfferPacket flow length) = refl
grounds_in_order s OpenTurn = refl
grounds_in_order s LostTurn = refl
grounds_in_order s Begin = refl
grounds_in_order s End = refl

-- a station with one lane as it was
urgent_back : (s : Station) (u : UrgentLane) → u ≡ s.urgent → record { urgent = u; fair = s.fair } ≡ s
urgent_back s u e = λ i. record { urgent = e i; fair = s.fair }

fair_back : (s : Station) (f : FairLane) → f ≡ s.fair → record { urgent = s.urgent; fair = f } ≡ s
fair_back s f e = λ i. record { urgent = s.urgent; fair = e i }

pub refused_same : RefusedSame
unfolding call_of
refused_same s (OpenUrgent flow deadline) r e = urgent_back s _ ((urgent_same s.urgent r).opening flow deadline e)
refused_same s (OpenFair flow weight) r e = fair_back s _ ((fair_same s.fair r).opening flow weight e)
refused_same s (CloseUrgent flow) r e = urgent_back s _ ((urgent_same s.urgent r).closing flow e)
refused_same s (CloseFair flow) r e = fair_back s _ ((fair_same s.fair r).closing flow e)
refused_same s (OfferCell flow deadline) r e = urgent_back s _ ((urgent_same s.urgent r).offering flow deadline e)
refused_same s (OfferPacket flow length) r e = fair_back s _ ((fair_same s.fair r).offering flow length e)
refused_same s OpenTurn r e = urgent_back s _ ((urgent_same s.urgent r).turning true e)
refused_same s LostTurn r e = urgent_back s _ ((urgent_same s.urgent r).turning false e)
refused_same s Begin r e = fair_back s _ ((fair_same s.fair r).beginning e)
refused_same s End r e = fair_back s _ ((fair_same s.fair r).ending e)

urgent_call_lem : (s : Station) (call : Call) → is_urgent call ≡ true → (call_of s call).station.fair ≡ s.fair
unfolding call_of
urgent_call_lem s (OpenUrgent flow deadline) e = refl
urgent_call_lem s (OpenFair flow weight) e = absurd (false≢true e)
urgent_call_lem s (CloseUrgent flow) e = refl
urgent_call_lem s (CloseFair flow) e = absurd (false≢true e)
urgent_call_lem s (OfferCell flow deadline) e = refl
urgent_call_lem s (OfferPacket flow length) e = absurd (false≢true e)
urgent_call_lem s OpenTurn e = refl
urgent_call_lem s LostTurn e = refl
urgent_call_lem s Begin e = absurd (false≢true e)
urgent_call_lem s End e = absurd (false≢true e)

fair_call_lem : (s : Station) (call : Call) → is_urgent call ≡ false → (call_of s call).station.urgent ≡ s.urgent
unfolding call_of
fair_call_lem s (OpenUrgent flow deadline) e = absurd (true≢false e)
fair_call_lem s (OpenFair flow weight) e = refl
fair_call_lem s (CloseUrgent flow) e = absurd (true≢false e)
fair_call_lem s (CloseFair flow) e = refl
fair_call_lem s (OfferCell flow deadline) e = absurd (true≢false e)
fair_call_lem s (OfferPacket flow length) e = refl
fair_call_lem s OpenTurn e = absurd (true≢false e)
fair_call_lem s LostTurn e = absurd (true≢false e)
fair_call_lem s Begin e = refl
fair_call_lem s End e = refl

urgent_alone_lem : (s t : Station) (call : Call) → is_urgent call ≡ true → s.urgent ≡ t.urgent
    → ((call_of s call).reply ≡ (call_of t call).reply) × ((call_of s call).station.urgent ≡ (call_of t call).station.urgent)
unfolding call_of
urgent_alone_lem s t (OpenUrgent flow deadline) e p =
    (ap (λ (u : UrgentLane). Urgent (open_urgent_of u flow deadline).answer) p, ap (λ (u : UrgentLane). (open_urgent_of u flow deadline).lane) p)
urgent_alone_lem s t (OpenFair flow weight) e p = absurd (false≢true e)
urgent_alone_lem s t (CloseUrgent flow) e p =
    (ap (λ (u : UrgentLane). Urgent (close_urgent_of u flow).answer) p, ap (λ (u : UrgentLane). (close_urgent_of u flow).lane) p)
urgent_alone_lem s t (CloseFair flow) e p = absurd (false≢true e)
urgent_alone_lem s t (OfferCell flow deadline) e p =
    (ap (λ (u : UrgentLane). Urgent (offer_cell_of u flow deadline).answer) p, ap (λ (u : UrgentLane). (offer_cell_of u flow deadline).lane) p)
urgent_alone_lem s t (OfferPacket flow length) e p = absurd (false≢true e)
urgent_alone_lem s t OpenTurn e p = (ap (λ (u : UrgentLane). Urgent (turn_of u true).answer) p, ap (λ (u : UrgentLane). (turn_of u true).lane) p)
urgent_alone_lem s t LostTurn e p = (ap (λ (u : UrgentLane). Urgent (turn_of u false).answer) p, ap (λ (u : UrgentLane). (turn_of u false).lane) p)
urgent_alone_lem s t Begin e p = absurd (false≢true e)
urgent_alone_lem s t End e p = absurd (false≢true e)

fair_alone_lem : (s t : Station) (call : Call) → is_urgent call ≡ false → s.fair ≡ t.fair
    → ((call_of s call).reply ≡ (call_of t call).reply) × ((call_of s call).station.fair ≡ (call_of t call).station.fair)
unfolding call_of
fair_alone_lem s t (OpenUrgent flow deadline) e p = absurd (true≢false e)
fair_alone_lem s t (OpenFair flow weight) e p =
    (ap (λ (u : FairLane). Fair (open_fair_of u flow weight).answer) p, ap (λ (u : FairLane). (open_fair_of u flow weight).lane) p)
fair_alone_lem s t (CloseUrgent flow) e p = absurd (true≢false e)
fair_alone_lem s t (CloseFair flow) e p = (ap (λ (u : FairLane). Fair (close_fair_of u flow).answer) p, ap (λ (u : FairLane). (close_fair_of u flow).lane) p)
fair_alone_lem s t (OfferCell flow deadline) e p = absurd (true≢false e)
fair_alone_lem s t (OfferPacket flow length) e p =
    (ap (λ (u : FairLane). Fair (offer_packet_of u flow length).answer) p, ap (λ (u : FairLane). (offer_packet_of u flow length).lane) p)
fair_alone_lem s t OpenTurn e p = absurd (true≢false e)
fair_alone_lem s t LostTurn e p = absurd (true≢false e)
fair_alone_lem s t Begin e p = (ap (λ (u : FairLane). Fair (begin_of u).answer) p, ap (λ (u : FairLane). (begin_of u).lane) p)
fair_alone_lem s t End e p = (ap (λ (u : FairLane). Fair (end_of u).answer) p, ap (λ (u : FairLane). (end_of u).lane) p)

pub lanes_apart : LanesApart
lanes_apart = record { urgent_call = urgent_call_lem; fair_call = fair_call_lem; urgent_alone = urgent_alone_lem; fair_alone = fair_alone_lem }
