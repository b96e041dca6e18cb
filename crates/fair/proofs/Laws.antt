-- What a begin answers is what the queue answers, and virtual time is the start tag in it.
use mathlib.Core.Path.{◌≡◌, refl, sym, ◌∙◌}
use Prim.Native.Nat.{ℕ}
use native.Mathlib.Omega.{arith}
use Rattle.units.specs.declared.Tag.{Tag}
use Rattle.packets.specs.Kept.{Kept}
use Rattle.packets.specs.declared.Answer.TheVariants.{Begun}
use Rattle.packets.specs.Queue.{by_start}
use Rattle.packets.specs.Calls.{begin_by}
use Rattle.packets.proofs.Cases.{begin_cases as queue_begin}
use Rattle.packets.proofs.Laws.{begins_first as queue-first}
use Rattle.fair.specs.declared.Fair.{Fair}
use Rattle.fair.specs.Calls.{begun, begin_of}
use Rattle.fair.specs.Laws.{BeginsFirst}
use Rattle.fair.proofs.Cases.{begin_cases}

module _ (u : Fair) where
  begin_said : (begin_of u).answer ≡ (begin_by by_start u.queue).answer
  unfolding begin_of
  begin_said = queue_begin u.queue (λ (d : Kept). (begun u d).answer ≡ d.answer) (λ r. refl) by_start (λ b place p e. refl)

  pub begins_first : (flow number bytes : ℕ) (start : Tag) → (begin_of u).answer ≡ Begun flow number bytes start → BeginsFirst u flow number bytes start
  begins_first flow number bytes start e =
      record {
        first = queue-first by_start u.queue flow number bytes start (sym begin_said ∙ e);
        time =
            begin_cases u (λ d. d.answer ≡ Begun flow number bytes start → d.lane.time ≡ start)
            (λ r q. absurd (let z : ◌≡◌ {A = ℕ} 0 1 = cc in omega arith)) (λ b place p c q. cc) e;
      }
