-- One seat more of a set of holders.
use Rattle.std.proofs.Common.{◌≡◌, ℕ, zero, suc, ◌+◌, ◌*◌, ◌/◌, ◌%◌, ◌^◌, ◌<◌, ◌≤◌, Bool, true, false, cond, ltb, ◌&&◌, ◌⊎◌, List, [], ◌∷◌, ◌++◌, length, get_or, take, Some, None, Option, bit_or, sym, refl, ap, inl, inr, ⊎_elim, ◌∙◌, subst, mul_comm, pow-suc, arith}
use Rattle.std.proofs.Math.Pow.{pow-lt}
use native.Mathlib.Nat.{zero-div, div-div-eq-div-mul}
use Rattle.std.proofs.lemmas.List.{take_more, length-take-le}
use Rattle.std.proofs.lemmas.Nat.{or_comm, or_shifted}
use Rattle.std.proofs.lemmas.Bool.{and_parts, and_from, ltb-true, lt-ltb, cases_lt, false≢true}
use Rattle.calls.specs.declared.views.View.{View}
use Rattle.calls.specs.Views.{signs, waits, Before}
use Rattle.phaser.specs.Rules.{Await, view_after_wait}
use Rattle.board.specs.Holders.{holds_back, holder_set, HasBit, HappenedBefore, WaitsFor}

bit_le : (b : Bool) → cond b 1 0 ≤ 1
bit_le true = omega arith
bit_le false = omega arith

-- a set of n seats has n bits
holding_lt : (wp : ℕ) (seats : List (Option View)) → holder_set wp seats < 2 ^ length seats
holding_lt wp [] = omega arith
holding_lt wp (o ∷ os) = let h = holding_lt wp os in let b = bit_le (holds_back wp o) in omega (arith, pow-suc 2 (length os))

doubled : (b : Bool) (n : ℕ) → cond b (2 ^ suc n) 0 ≡ 2 * cond b (2 ^ n) 0
doubled true n = omega (arith, pow-suc 2 n)
doubled false n = omega arith

first_bit : (b : Bool) → cond b 1 0 ≡ cond b (2 ^ 0) 0
first_bit true = refl
first_bit false = refl

-- a further seat is the next bit
holding_append : (wp : ℕ) (os : List (Option View)) (o : Option View) → holder_set wp (os ++ o ∷ []) ≡ holder_set wp os + cond (holds_back wp o) (2 ^ length os) 0
holding_append wp [] o = omega (arith, first_bit (holds_back wp o))
holding_append wp (p ∷ os) o = omega (arith, holding_append wp os o, doubled (holds_back wp o) (length os))

module _ (wp : ℕ) (seats : List (Option View)) (k : ℕ) (within : k < length seats) where
  pub holding_more : (d : Option View) → holder_set wp (take (k + 1) seats) ≡ holder_set wp (take k seats) + cond (holds_back wp (get_or seats k d)) (2 ^ k) 0
  holding_more d =
      ap (holder_set wp) (take_more seats k d within)
      ∙ holding_append wp (take k seats) (get_or seats k d)
      ∙ ap (λ n. holder_set wp (take k seats) + cond (holds_back wp (get_or seats k d)) (2 ^ n) 0) (length-take-le k seats (omega arith))

  -- the bit of the seat at k is not among those before
  pub bit_added : (set : ℕ) → set ≡ holder_set wp (take k seats) → k < 64 → bit_or set (1 * 2 ^ k % 2 ^ 64) ≡ set + 2 ^ k
  bit_added set e few =
      let long : length (take k seats) ≡ k = length-take-le k seats (omega arith) in
      let low : set < 2 ^ k = subst (λ n. n < 2 ^ k) (sym e) (subst (λ n. holder_set wp (take k seats) < 2 ^ n) long (holding_lt wp (take k seats))) in
      let fits : 2 ^ k < 2 ^ 64 = pow-lt few in
      let one : 1 * 2 ^ k % 2 ^ 64 ≡ 1 * 2 ^ k = omega arith in
      ap (bit_or set) one ∙ or_comm set (1 * 2 ^ k) ∙ or_shifted 1 k set low ∙ omega arith

low_bit : (b : Bool) (n : ℕ) → (cond b 1 0 + 2 * n) / 1 % 2 ≡ cond b 1 0
low_bit true n = omega arith
low_bit false n = omega arith

halved : (b : Bool) (n : ℕ) → (cond b 1 0 + 2 * n) / 2 ≡ n
halved true n = omega arith
halved false n = omega arith

bits_of : (wp : ℕ) (seats : List (Option View)) (k : ℕ) → holder_set wp seats / 2 ^ k % 2 ≡ cond (holds_back wp (get_or seats k None)) 1 0
bits_of wp [] k = ap (λ n. n % 2) (zero-div (2 ^ k))
bits_of wp (o ∷ os) zero = low_bit (holds_back wp o) (holder_set wp os)
bits_of wp (o ∷ os) (suc k) =
    let whole = cond (holds_back wp o) 1 0 + 2 * holder_set wp os in
    ap (λ m. whole / m % 2) (pow-suc 2 k ∙ mul_comm (2 ^ k) 2)
    ∙ ap (λ n. n % 2) (sym (div-div-eq-div-mul whole 2 (2 ^ k)) ∙ ap (λ n. n / 2 ^ k) (halved (holds_back wp o) (holder_set wp os)))
    ∙ bits_of wp os k

-- ---- who is waited for

one_bit : (b : Bool) → ◌≡◌ {A = ℕ} (cond b 1 0) 1 → b ≡ true
one_bit true e = refl
one_bit false e = absurd (omega arith)

not_one : (b : Bool) → b ≡ false ⊎ b ≡ true
not_one true = inr refl
not_one false = inl refl

-- a waiter with the view m
module _ (m : View) (waiter : waits m.mode ≡ true) where
  holder_before : (o : Option View) → holds_back m.wp o ≡ true → (v : View) × (o ≡ Some v) × Before v (view_after_wait m)
  holder_before None e = absurd (false≢true e)
  holder_before (Some v) e =
      let p = and_parts (signs v.mode) (ltb v.sp (m.wp + 1)) e in
      (v, refl, record { signaler = p.0; less = ltb-true v.sp (m.wp + 1) p.1; waiter = waiter })

  before_holds : (o : Option View) (v : View) → o ≡ Some v → Before v (view_after_wait m) → holds_back m.wp o ≡ true
  before_holds o v e b = ap (holds_back m.wp) e ∙ and_from (signs v.mode) (ltb v.sp (m.wp + 1)) b.signaler (lt-ltb v.sp (m.wp + 1) b.less)

  module _ (members : List (Option View)) where
    here : (k : ℕ) → HasBit (holder_set m.wp members) k → HappenedBefore members k (view_after_wait m)
    here k bit =
        let h = holder_before (get_or members k None) (one_bit (holds_back m.wp (get_or members k None)) (sym (bits_of m.wp members k) ∙ bit)) in
        record { view = h.0; member = h.1; before = h.2 }

    there : (k : ℕ) → HappenedBefore members k (view_after_wait m) → HasBit (holder_set m.wp members) k
    there k h = bits_of m.wp members k ∙ ap (λ b. cond b 1 0) (before_holds (get_or members k None) h.view h.member h.before)

    signed_if_none : holder_set m.wp members ≡ 0 → Await (λ k. get_or members k None) (m.wp + 1)
    signed_if_none empty k v member signer =
        ⊎_elim
        (λ (lt : v.sp < m.wp + 1).
        let bit = there k (record { view = v; member = member; before = record { signaler = signer; less = lt; waiter = waiter } }) in
        absurd (omega (arith, sym bit ∙ ap (λ n. n / 2 ^ k % 2) empty ∙ ap (λ n. n % 2) (zero-div (2 ^ k)))))
        (λ (ge : m.wp + 1 ≤ v.sp). ge)
        (cases_lt v.sp (m.wp + 1))

none_holds : (wp : ℕ) (seats : List (Option View)) → ((k : ℕ) → holds_back wp (get_or seats k None) ≡ false) → holder_set wp seats ≡ 0
none_holds wp [] all = refl
none_holds wp (o ∷ os) all =
    let first : ◌≡◌ {A = ℕ} (cond (holds_back wp o) 1 0) 0 = ap (λ b. cond b 1 0) (all 0) in
    omega (arith, first, none_holds wp os (λ k. all (suc k)))

none_if_signed : (m : View) (members : List (Option View)) → Await (λ k. get_or members k None) (m.wp + 1) → holder_set m.wp members ≡ 0
none_if_signed m members signed =
    none_holds m.wp members
    (λ k. free (get_or members k None) (signed k))
  where
    free : (o : Option View) → ((v : View) → o ≡ Some v → signs v.mode ≡ true → m.wp + 1 ≤ v.sp) → holds_back m.wp o ≡ false
    free None h = refl
    free (Some v) h =
        ⊎_elim
        (λ (e : (signs v.mode && ltb v.sp (m.wp + 1)) ≡ false). e)
        (λ (e : (signs v.mode && ltb v.sp (m.wp + 1)) ≡ true).
        let p = and_parts (signs v.mode) (ltb v.sp (m.wp + 1)) e in
        absurd (omega (arith, ltb-true v.sp (m.wp + 1) p.1, h v refl p.0)))
        (not_one (signs v.mode && ltb v.sp (m.wp + 1)))

pub waits_for : (m : View) → waits m.mode ≡ true → (members : List (Option View)) → WaitsFor members (view_after_wait m) (holder_set m.wp members)
waits_for m waiter members = record {
  each = λ k. (here m waiter members k, there m waiter members k);
  none = (signed_if_none m waiter members, none_if_signed m members);
}
