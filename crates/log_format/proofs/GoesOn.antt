-- However the bytes go on.
use mathlib.Core.Path.{◌≡◌, refl, sym, ◌∙◌, ap}
use mathlib.Core.Bool.{true, false}
use mathlib.Core.List.{List, [], ◌∷◌, ◌++◌}
use Rattle.std.proofs.Common.{None, Some}
use Prim.Native.Nat.{ℕ, zero, suc, ◌+◌, ◌/◌, ◌≤◌, ◌<◌}
use native.Mathlib.Omega.{arith}
use borrow.Author.Tests.{le-ltb}
use lib.Dec.{ltb}
use lib.ListN.{length, length-append, get_or-append}
use Rattle.log_format.specs.declared.Fault.{Fault}
use Rattle.log_format.specs.declared.Fault.TheVariants.{EndsEarly, ByteTooMany}
use Rattle.log_format.specs.declared.Form.{Form}
use Rattle.log_format.specs.Format.{Log, most_deadline, most_weight}
use Rattle.log_format.specs.Faults.{byte_at, form_at, four_at, urgent_length, fair_length, event_length, fair_start, event_start, log_end}
use Rattle.log_format.specs.Reading.{Good, Bad, Part, first_fault, body_parts, opening_parts, event_parts, urgent_body, fair_body, event_body, read_of}
use Rattle.log_format.specs.Laws.{GoesOn}
use Rattle.log_format.proofs.Parts.{Found, first_cases}
use Rattle.log_format.proofs.Faults.{Sound, read_cases}
use Rattle.log_format.proofs.Places.{parts}

-- ---- parts that are alike as far as n bytes tell
abbrev Likes : ℕ → List Part → List Part → Type 0
Likes n [] [] = Unit {0}
Likes n [] (q ∷ qs) = ⊥
Likes n (p ∷ ps) [] = ⊥
Likes n (p ∷ ps) (q ∷ qs) =
    (p.start ≡ q.start) × (p.size ≡ q.size) × (p.fault ≡ q.fault) × (p.start + p.size ≤ n → (p.bad ≡ q.bad) × Likes n ps qs)

likes_append : (n : ℕ) (xs ys zs ws : List Part) → Likes n xs ys → Likes n zs ws → Likes n (xs ++ zs) (ys ++ ws)
likes_append n [] [] zs ws a b = b
likes_append n [] (y ∷ ys) zs ws a b = absurd a
likes_append n (x ∷ xs) [] zs ws a b = absurd a
likes_append n (x ∷ xs) (y ∷ ys) zs ws a b =
    (a.0, a.1, a.2, λ h. ((a.3 h).0, likes_append n xs ys zs ws (a.3 h).1 b))

like_some : (n m : ℕ) (ps qs : List Part) → n ≤ m → Likes n ps qs → (x : Fault × ℕ) → (x.0 ≡ EndsEarly → ⊥) → first_fault n ps ≡ Some x → first_fault m qs ≡ Some x
unfolding first_fault
like_some n m [] [] l a x d = λ e. absurd (let z : ◌≡◌ {A = ℕ} 0 1 = cc in omega arith)
like_some n m [] (q ∷ qs) l a x d = absurd a
like_some n m (p ∷ ps) [] l a x d = absurd a
like_some n m (p ∷ ps) (q ∷ qs) l a x d =
    first_cases n p ps (λ r. r ≡ Some x → first_fault m (q ∷ qs) ≡ Some x)
    (λ h e. absurd (d (let z : x.0 ≡ EndsEarly = cc in z)))
    (λ h b e.
    let i = a.3 h in
    let t : q.bad ≡ true = sym i.0 ∙ b in
    let w : ltb m (q.start + q.size) ≡ false = le-ltb m (q.start + q.size) (omega (arith, a.0, a.1)) in
    rw (w, t) (let z : ◌≡◌ {A = Found} (Some (p.fault, p.start)) (Some (q.fault, q.start)) = rw (a.2, a.0) in sym z ∙ e))
    (λ h b e.
    let i = a.3 h in
    let t : q.bad ≡ false = sym i.0 ∙ b in
    let w : ltb m (q.start + q.size) ≡ false = le-ltb m (q.start + q.size) (omega (arith, a.0, a.1)) in
    rw (w, t) (like_some n m ps qs l i.1 x d e))

like_none : (n m : ℕ) (ps qs : List Part) → n ≤ m → Likes n ps qs → first_fault n ps ≡ None → first_fault m qs ≡ None
unfolding first_fault
like_none n m [] [] l a = λ e. refl
like_none n m [] (q ∷ qs) l a = absurd a
like_none n m (p ∷ ps) [] l a = absurd a
like_none n m (p ∷ ps) (q ∷ qs) l a =
    first_cases n p ps (λ r. r ≡ None → first_fault m (q ∷ qs) ≡ None)
    (λ h e. absurd (let z : ◌≡◌ {A = ℕ} 0 1 = cc in omega arith))
    (λ h b e. absurd (let z : ◌≡◌ {A = ℕ} 0 1 = cc in omega arith))
    (λ h b e.
    let i = a.3 h in
    let t : q.bad ≡ false = sym i.0 ∙ b in
    let w : ltb m (q.start + q.size) ≡ false = le-ltb m (q.start + q.size) (omega (arith, a.0, a.1)) in
    rw (w, t) (like_none n m ps qs l i.1 e))

-- ---- bytes that go on
module _ (s t : List ℕ) (n : ℕ) (same : (i : ℕ) → i < n → byte_at s i ≡ byte_at t i) where
  likes_openings : (most least at k : ℕ) → Likes n (opening_parts most least s at k) (opening_parts most least t at k)
  unfolding opening_parts
  likes_openings most least at zero = tt
  likes_openings most least at (suc k) = (
    refl,
    refl,
    refl,
    λ h. (
      rw (same at (omega arith), same (at + 1) (omega arith), same (at + 1 + 1) (omega arith)),
      rw (same at (omega arith)) (likes_openings most (byte_at t at + 1) (at + 3) k),
    ),
  )

  likes_events : (form : Form) (at k : ℕ) → Likes n (event_parts form s at k) (event_parts form t at k)
  unfolding event_parts
  likes_events form at zero = tt
  likes_events form at (suc k) = (
    refl,
    refl,
    refl,
    λ h. (
      rw (same at (omega arith), same (at + 1) (omega arith), same (at + 2) (omega arith), same (at + 2 + 1) (omega arith)),
      likes_events form (at + 4) k,
    ),
  )

  four_same : (at : ℕ) → at + 4 ≤ n → four_at s at ≡ four_at t at
  four_same at l = rw (same at (omega arith), same (at + 1) (omega arith), same (at + 2) (omega arith), same (at + 3) (omega arith))

  urgent_same : 9 ≤ n → urgent_length s ≡ urgent_length t
  unfolding urgent_length
  urgent_same l = four_same 5 (omega arith)

  fair_same : 17 ≤ n → fair_length s ≡ fair_length t
  unfolding fair_length
  fair_same l = four_same 13 (omega arith)

  event_same : 25 ≤ n → event_length s ≡ event_length t
  unfolding event_length
  event_same l = four_same 21 (omega arith)

  likes_bodies : 25 ≤ n → Likes n (body_parts s) (body_parts t)
  likes_bodies l =
      rw (urgent_same (omega arith), fair_same (omega arith), event_same (omega arith), same 0 (omega arith))
      (likes_append n (opening_parts most_deadline 0 s 25 (urgent_length t / 3)) (urgent_body t) _ (fair_body t ++ event_body t)
      (likes_openings most_deadline 0 25 (urgent_length t / 3))
      (likes_append n (opening_parts most_weight 0 s (fair_start t) (fair_length t / 3)) (fair_body t) (event_parts (form_at t) s (event_start t) (event_length t / 4)) (event_body t)
      (likes_openings most_weight 0 (fair_start t) (fair_length t / 3))
      (likes_events (form_at t) (event_start t) (event_length t / 4))))

  likes_parts : Likes n (parts s) (parts t)
  likes_parts = (
    refl,
    refl,
    refl,
    λ h. (
      rw (same 0 (omega arith)),
      (
        refl,
        refl,
        refl,
        λ h. (
          rw (four_same 1 (omega arith)),
          (
            refl,
            refl,
            refl,
            λ h. (
              rw (urgent_same (omega arith)),
              (
                refl,
                refl,
                refl,
                λ h. (
                  rw (urgent_same (omega arith), four_same 9 (omega arith)),
                  (
                    refl,
                    refl,
                    refl,
                    λ h. (
                      rw (fair_same (omega arith)),
                      (
                        refl,
                        refl,
                        refl,
                        λ h. (
                          rw (urgent_same (omega arith), fair_same (omega arith), four_same 17 (omega arith)),
                          (refl, refl, refl, λ h. (rw (urgent_same (omega arith), fair_same (omega arith), event_same (omega arith)), likes_bodies (omega arith))),
                        ),
                      ),
                    ),
                  ),
                ),
              ),
            ),
          ),
        ),
      ),
    ),
  )

-- ---- the reading by its parts
module _ (t : List ℕ) where
  reads_some : (x : Fault × ℕ) → first_fault (length t) (parts t) ≡ Some x → read_of t ≡ Bad x.0 x.1
  reads_some x e =
      read_cases t (λ r. r ≡ Bad x.0 x.1)
      (λ y f. let q : y ≡ x = cc in ap (λ (z : Fault × ℕ). Bad z.0 z.1) q)
      (λ h l. let f = h.clean in absurd (let z : ◌≡◌ {A = ℕ} 0 1 = cc in omega arith))
      (λ h l. let f = h.clean in absurd (let z : ◌≡◌ {A = ℕ} 0 1 = cc in omega arith))

  reads_many : first_fault (length t) (parts t) ≡ None → log_end t < length t → read_of t ≡ Bad ByteTooMany (log_end t)
  reads_many e k =
      read_cases t (λ r. r ≡ Bad ByteTooMany (log_end t))
      (λ y f. absurd (let z : ◌≡◌ {A = ℕ} 0 1 = cc in omega arith))
      (λ h l. refl)
      (λ h l. absurd (omega arith))

module _ (s more : List ℕ) where
  abbrev t : List ℕ
  t = s ++ more

  longer : length s ≤ length t
  longer = omega (arith, length-append s more)

  same : (i : ℕ) → i < length s → byte_at s i ≡ byte_at t i
  same i l = sym (get_or-append s more 0 i l)

  alike : Likes (length s) (parts s) (parts t)
  alike = likes_parts s t (length s) same

  end_same : 25 ≤ length s → log_end s ≡ log_end t
  end_same l = rw (urgent_same s t (length s) same (omega arith), fair_same s t (length s) same (omega arith), event_same s t (length s) same l)

  -- past the end of a log whose parts are all good
  past : Sound s → log_end s < length t → read_of t ≡ Bad ByteTooMany (log_end s)
  past h l =
      let e = end_same h.table.whole in
      reads_many t (like_none (length s) (length t) (parts s) (parts t) longer alike h.clean) (omega (arith, e)) ∙ ap (Bad ByteTooMany) (sym e)

  stays : (f : Fault) (place : ℕ) → read_of s ≡ Bad f place → (f ≡ EndsEarly → ⊥) → read_of t ≡ Bad f place
  stays f place =
      read_cases s (λ r. r ≡ Bad f place → (f ≡ EndsEarly → ⊥) → read_of t ≡ Bad f place)
      (λ x e q d.
      let a : x.0 ≡ f = cc in
      reads_some t x (like_some (length s) (length t) (parts s) (parts t) longer alike x (λ z. d (sym a ∙ z)) e) ∙ q)
      (λ h l q d. past h (omega (arith, longer)) ∙ q)
      (λ h l q d. absurd (let z : ◌≡◌ {A = ℕ} 0 1 = cc in omega arith))

whole : (s more : List ℕ) (byte : ℕ) (log : Log) → read_of s ≡ Good log → read_of (s ++ byte ∷ more) ≡ Bad ByteTooMany (length s)
whole s more byte log =
    read_cases s (λ r. r ≡ Good log → read_of (s ++ byte ∷ more) ≡ Bad ByteTooMany (length s))
    (λ x e q. absurd (let z : ◌≡◌ {A = ℕ} 0 1 = cc in omega arith))
    (λ h l q. absurd (let z : ◌≡◌ {A = ℕ} 0 1 = cc in omega arith))
    (λ h l q. past s (byte ∷ more) h (omega (arith, length-append s (byte ∷ more))) ∙ ap (Bad ByteTooMany) l)

pub goes_on : (s : List ℕ) → GoesOn s
goes_on s = record { stays = stays s; whole = whole s }
