-- T1: over the same calls, of which neither lane answers 6 to any, a lane of one class and the fair lane stay alike, so that each call is
-- answered alike.
use mathlib.Core.Path.{◌≡◌, refl, sym, subst}
use mathlib.Core.List.{List, [], ◌∷◌, map}
use Rattle.std.proofs.Common.{Some}
use Rattle.units.specs.declared.Refusal.TheVariants.{TagsUsedUp}
use Rattle.places.specs.Members.{Each}
use Rattle.packets.specs.declared.Answer.{Answer as FairAnswer}
use Rattle.packets.specs.declared.Queue.{Queue}
use Rattle.packets.specs.Answers.{refusal_in as fair_refusal}
use Rattle.fair.specs.declared.Fair.{Fair}
use Rattle.promises_queue.specs.Packets.{Packets, no_packets}
use Rattle.promises_queue.specs.Notes.{note_opening, note_closing, note_offer, note_service}
use Rattle.promises_fair.proofs.Good.{Good, good_fresh, good_open, good_close, good_offer, good_begin, good_end}
use Rattle.promises_fair.proofs.Stamped.{AsGiven, given_open, given_close, given_offer, given_begin, given_end}
use Rattle.tree.specs.declared.Tree.{Tree}
use Rattle.classes.specs.declared.Classes.{Classes}
use Rattle.classes.specs.declared.Call.{Call}
use Rattle.classes.specs.declared.Call.TheVariants.{Open, Close, Offer, Begin, End}
use Rattle.classes.specs.declared.Answer.{Answer}
use Rattle.classes.specs.Answers.{refusal_in}
use Rattle.classes.specs.Calls.{call_of, answers}
use Rattle.one_class.specs.OneClass.{fair_of, fair_answers, as_class, OneClassFair}
use Rattle.one_class.proofs.OneFlows.{TreeOf, Alike, Told, beside, told_open, told_close}
use Rattle.one_class.proofs.OneOffer.{told_offer}
use Rattle.one_class.proofs.OneBegin.{told_begin}
use Rattle.one_class.proofs.OneEnd.{told_end}
use Rattle.one_class.proofs.OneFresh.{tree_fresh}

-- what a call of the fair lane and its answer add to what is noted of its packets
abbrev note_of : Packets → Call → FairAnswer → Packets
note_of h (Open flow weight) a = note_opening h flow weight a
note_of h (Close flow) a = note_closing h flow a
note_of h (Offer flow length) a = note_offer h flow length a
note_of h Begin a = note_service h a
note_of h End a = note_service h a

-- an answer is not 6
abbrev NotSix : Answer → Type 0
NotSix a = refusal_in a ≡ Some TagsUsedUp → ⊥

-- and of the fair lane
abbrev FairNotSix : FairAnswer → Type 0
FairNotSix a = fair_refusal a ≡ Some TagsUsedUp → ⊥

module _ (v : Fair) (h : Packets) (g : Good v h) (given : AsGiven h) where
  -- each call keeps what holds of the fair lane
  good_after : (call : Call) → Good (fair_of v call).lane (note_of h call (fair_of v call).answer)
  good_after (Open flow weight) = good_open v h g flow weight
  good_after (Close flow) = good_close v h g flow
  good_after (Offer flow length) = good_offer v h g flow length
  good_after Begin = good_begin v h g
  good_after End = good_end v h g

  -- and that its tags are as they were given
  given_after : (call : Call) → AsGiven (note_of h call (fair_of v call).answer)
  given_after (Open flow weight) = given_open v h g given flow weight
  given_after (Close flow) = given_close v h g given flow
  given_after (Offer flow length) = given_offer v h g given flow length
  given_after Begin = given_begin v h g given
  given_after End = given_end v h g given

  -- each call is answered alike
  told : (t : Tree) → TreeOf t v h → (call : Call) → FairNotSix (fair_of v call).answer → NotSix (call_of (beside t v) call).answer
      → Told (call_of (beside t v) call) (fair_of v call) (note_of h call (fair_of v call).answer)
  told t o (Open flow weight) m n = told_open t v h o g.kept.queue.sixteen flow weight
  told t o (Close flow) m n = told_close t v h o g.kept.queue.sixteen flow
  told t o (Offer flow length) m n = told_offer t v h o g flow length m
  told t o Begin m n = told_begin t v h o g given n
  told t o End m n = told_end t v h o g given

-- the answers to all calls from lanes that are alike
all_alike : (u : Classes) (v : Fair) (h : Packets) → Alike u v h → (calls : List Call) → Each FairNotSix (fair_answers v calls) → Each NotSix (answers u calls)
    → answers u calls ≡ map as_class (fair_answers v calls)
unfolding fair_answers answers
all_alike u v h a [] m n = refl
all_alike u v h a (call ∷ calls) m n =
    let x =
    subst
    (λ (q : Queue).
    NotSix (call_of (record { tree = u.tree; queue = q }) call).answer
    → Told (call_of (record { tree = u.tree; queue = q }) call) (fair_of v call) (note_of h call (fair_of v call).answer))
    (sym a.queue) (told v h a.good a.given u.tree a.tree call m.0) n.0 in
    let next =
    all_alike (call_of u call).lane (fair_of v call).lane (note_of h call (fair_of v call).answer)
    (record { queue = x.1; tree = x.2; good = good_after v h a.good a.given call; given = given_after v h a.good a.given call }) calls m.1 n.1 in
    λ i. x.0 i ∷ next i

pub one_class_fair : OneClassFair
one_class_fair p fits one calls m n =
    all_alike _ _ no_packets (record { queue = refl; tree = tree_fresh p fits one; good = good_fresh; given = tt }) calls m n
