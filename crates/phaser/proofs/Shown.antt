-- The account that a step leaves, as totals without limits; a state is what it shows.
use Rattle.std.proofs.Common.{◌≡◌, ℕ, zero, suc, ◌+◌, ◌-◌, ◌<◌, ◌≤◌, Bool, true, false, cond, List, [], ◌∷◌, ◌++◌, length, get_or, drop, set, None, sym, refl, ap, ◌∙◌, ⊎_elim, arith}
use Rattle.std.proofs.lemmas.List.{length-append, length-drop, get_or-set_same, get_or-set_other, ext_get_or}
use Rattle.joining.specs.declared.Joining.{Ghosts}
use Rattle.accumulator.specs.declared.TheConstants.{KEPT}
use Rattle.accumulator.specs.Meaning.{Meaning, total_in, with_value, without_first}
use Rattle.phaser.specs.State.{State}
use Rattle.phaser.specs.Rules.{put, PhaserState}
use Rattle.phaser.specs.Limits.{Shows}
use Rattle.phaser.proofs.Seats.{put_cases}

module _ {V : Type 0} (J : Ghosts V) where
  -- a total at a place, the neutral value past the end, as the passes move on
  moved_total : (ts : List V) (i : ℕ) → 0 < length ts → get_or (drop 1 ts ++ (J.neutral ∷ [])) i J.neutral ≡ get_or ts (suc i) J.neutral
  moved_total [] i h = absurd (omega arith)
  moved_total (x ∷ xs) i h = past_end xs i
    where
      past_end : (ys : List _) (k : ℕ) → get_or (ys ++ (J.neutral ∷ [])) k J.neutral ≡ get_or ys k J.neutral
      past_end [] zero = refl
      past_end [] (suc k) = refl
      past_end (y ∷ ys) zero = refl
      past_end (y ∷ ys) (suc k) = past_end ys k

  -- after a move on, or none
  pub record Moved (b : Bool) (m n : Meaning V) : Type 0 where
    pub limit : n.limit ≡ m.limit
    pub first : n.first ≡ cond b (m.first + 1) m.first
    pub window : length n.totals ≡ KEPT
    pub totals : (p : ℕ) → n.first ≤ p → total_in J n p ≡ total_in J m p

  pub moved : (m : Meaning V) → length m.totals ≡ KEPT → (b : Bool) → Moved b m (cond b (without_first J m) m)
  moved m full true = record {
    limit = refl;
    first = refl;
    window = simp (length-append, length-drop) (omega arith);
    totals = λ p k.
        let q : p - m.first ≡ suc (p - (m.first + 1)) = omega arith in
        moved_total m.totals (p - (m.first + 1)) (omega arith) ∙ ap (λ (i : ℕ). get_or m.totals i J.neutral) (sym q);
  }
  moved m full false = record { limit = refl; first = refl; window = full; totals = λ p k. refl }

  pub value_joined : (m : Meaning V) (n : ℕ) (x : V) → length m.totals ≡ KEPT → m.first ≤ n → n < m.first + KEPT → (p : ℕ) → m.first ≤ p → total_in J (with_value J m n x) p ≡ put (total_in J m) n (J.joined (total_in J m n) x) p
  value_joined m n x full low high p k =
      let y : V = J.joined (total_in J m n) x in
      let i : ℕ = n - m.first in
      ⊎_elim
      (λ c. ap (λ (q : ℕ). get_or (set m.totals i y) (q - m.first) J.neutral) c.0 ∙ get_or-set_same m.totals i y J.neutral (omega arith) ∙ sym c.1)
      (λ c. get_or-set_other m.totals i (p - m.first) y J.neutral (λ e. c.0 (omega arith)) ∙ sym c.1)
      (put_cases (total_in J m) n y p)

  -- states of one size, limit and first kept pass that show the same are the same
  pub same_state : (t u : State V) (d : PhaserState V) → Shows J t d → Shows J u d → length t.members ≡ length u.members → t.account.limit ≡ u.account.limit → t.account.first ≡ u.account.first → length t.account.totals ≡ length u.account.totals → t ≡ u
  same_state t u d h k size limits firsts long =
      let f : ℕ = t.account.first in
      let f' : ℕ = u.account.first in
      let members : t.members ≡ u.members = ext_get_or None t.members u.members size (λ i l. h.seats i ∙ sym (k.seats i)) in
      let at : (i : ℕ) → get_or t.account.totals i J.neutral ≡ get_or u.account.totals i J.neutral
      = λ i.
      let a : (f + i) - f ≡ i = omega arith in
      let b : (f + i) - f' ≡ i = omega arith in
      ap (λ (n : ℕ). get_or t.account.totals n J.neutral) (sym a)
      ∙ h.totals (f + i) (omega arith) ∙ sym (k.totals (f + i) (omega arith))
      ∙ ap (λ (n : ℕ). get_or u.account.totals n J.neutral) b in
      let totals : t.account.totals ≡ u.account.totals = ext_get_or J.neutral t.account.totals u.account.totals long (λ i l. at i) in
      λ i. record { members = members i; account = record { limit = limits i; first = firsts i; totals = totals i } }
