-- The tests of a call in the words of its rule, both ways.
use Rattle.std.proofs.Common.{◌≡◌, ℕ, zero, suc, ◌+◌, ◌≤◌, Bool, true, false, cond, not, ◌&&◌, ◌||◌, eqb, leb, List, [], ◌∷◌, get_or, is_some, Some, None, Option, sym, refl, ap, ◌∙◌, subst, arith}
use Rattle.std.proofs.lemmas.Bool.{not-true, not_from_false, eqb-true, eqb-false, ne_eqb, leb-true, le-leb, lt-ltb, and_parts, and_from, false≢true}
use Rattle.refusal.specs.declared.limits.TheConstants.{LAST_PASS}
use Rattle.refusal.specs.Rules.{EveryRuleHolds}
use Rattle.calls.specs.declared.Mode.{Mode}
use Rattle.calls.specs.declared.Mode.TheVariants.{SignalWait, SignalOnly, WaitOnly}
use Rattle.calls.specs.declared.views.View.{View}
use Rattle.calls.specs.Tables.{admits}
use Rattle.calls.specs.Views.{signs, waits, SoundCounts}
use Rattle.accumulator.specs.Window.{move_on_rules}
use Rattle.accumulator.specs.declared.TheConstants.{LEAD}
use Rattle.phaser.specs.Limits.{is_sw, reaches}
use Rattle.phaser.specs.Steps.{view_of, has_signed, all_signed}
use Rattle.phaser.proofs.Seats.{none_some, same_view}

-- ---- seats

pub present : (o : Option View) → is_some o ≡ true → o ≡ Some (view_of o)
present None e = absurd (false≢true e)
present (Some v) e = refl

pub vacant : (o : Option View) → not (is_some o) ≡ true → o ≡ None
vacant None e = refl
vacant (Some v) e = absurd (false≢true e)

-- ---- turns

pub sign_in_turn : (m : Mode) (sp wp : ℕ) → SoundCounts m sp wp → not (is_sw m && eqb sp (wp + 1)) ≡ true → m ≡ SignalWait → sp ≡ wp
sign_in_turn SignalWait sp wp p e q = let n = eqb-false sp (wp + 1) (not-true _ e) in omega arith
sign_in_turn SignalOnly sp wp p e q = let z : ◌≡◌ {A = ℕ} 0 1 = cc in omega arith
sign_in_turn WaitOnly sp wp p e q = let z : ◌≡◌ {A = ℕ} 0 1 = cc in omega arith

pub may_sign : (m : Mode) (sp wp : ℕ) → (m ≡ SignalWait → sp ≡ wp) → not (is_sw m && eqb sp (wp + 1)) ≡ true
may_sign SignalWait sp wp h = let q = h refl in not_from_false _ (ne_eqb sp (wp + 1) (λ e. omega arith))
may_sign SignalOnly sp wp h = refl
may_sign WaitOnly sp wp h = refl

pub wait_in_turn : (m : Mode) (sp wp : ℕ) → SoundCounts m sp wp → not (is_sw m && eqb sp wp) ≡ true → m ≡ SignalWait → sp ≡ wp + 1
wait_in_turn SignalWait sp wp p e q = let n = eqb-false sp wp (not-true _ e) in omega arith
wait_in_turn SignalOnly sp wp p e q = let z : ◌≡◌ {A = ℕ} 0 1 = cc in omega arith
wait_in_turn WaitOnly sp wp p e q = let z : ◌≡◌ {A = ℕ} 0 1 = cc in omega arith

pub may_wait : (m : Mode) (sp wp : ℕ) → (m ≡ SignalWait → sp ≡ wp + 1) → not (is_sw m && eqb sp wp) ≡ true
may_wait SignalWait sp wp h = let q = h refl in not_from_false _ (ne_eqb sp wp (λ e. omega arith))
may_wait SignalOnly sp wp h = refl
may_wait WaitOnly sp wp h = refl

-- ---- who brings in whom

implies : (a b : Bool) → (not a || b) ≡ true → a ≡ true → b ≡ true
implies true b e p = e
implies false b e p = absurd (false≢true p)

implied : (a b : Bool) → (a ≡ true → b ≡ true) → (not a || b) ≡ true
implied true b h = h refl
implied false b h = refl

pub admitted : (m r : Mode) → admits m r ≡ true → (waits r ≡ true → waits m ≡ true) × (signs r ≡ true → signs m ≡ true)
admitted m r e =
    let p = and_parts (not (signs r) || signs m) (not (waits r) || waits m) e in
    (implies (waits r) (waits m) p.1, implies (signs r) (signs m) p.0)

pub may_admit : (m r : Mode) → (waits r ≡ true → waits m ≡ true) → (signs r ≡ true → signs m ≡ true) → admits m r ≡ true
may_admit m r w s = and_from (not (signs r) || signs m) (not (waits r) || waits m) (implied (signs r) (signs m) s) (implied (waits r) (waits m) w)

-- ---- every signaler has signed

pub all_up : (n : ℕ) (ms : List (Option View)) → all_signed n ms ≡ true → (k : ℕ) (w : View) → get_or ms k None ≡ Some w → signs w.mode ≡ true → n ≤ w.sp
all_up n [] b k w e m = absurd (none_some w e)
all_up n (None ∷ ms) b zero w e m = absurd (none_some w e)
all_up n (None ∷ ms) b (suc k) w e m = all_up n ms b k w e m
all_up n (Some v ∷ ms) b zero w e m =
    let q : w ≡ v = sym (same_view v w e) in
    let p = and_parts (has_signed n (Some v)) (all_signed n ms) b in
    let up = leb-true n v.sp (implies (signs v.mode) (leb n v.sp) p.0 (ap (λ (u : View). signs u.mode) (sym q) ∙ m)) in
    subst (λ (u : View). n ≤ u.sp) (sym q) up
all_up n (Some v ∷ ms) b (suc k) w e m = all_up n ms (and_parts (has_signed n (Some v)) (all_signed n ms) b).1 k w e m

pub up_all : (n : ℕ) (ms : List (Option View)) → ((k : ℕ) (w : View) → get_or ms k None ≡ Some w → signs w.mode ≡ true → n ≤ w.sp) → all_signed n ms ≡ true
up_all n [] h = refl
up_all n (None ∷ ms) h = up_all n ms (λ k. h (suc k))
up_all n (Some v ∷ ms) h =
    and_from (has_signed n (Some v)) (all_signed n ms) (implied (signs v.mode) (leb n v.sp) (λ t. le-leb n v.sp (h 0 v refl t))) (up_all n ms (λ k. h (suc k)))

-- ---- the move on

-- within the last pass there is one to move on to
pub moves_within : (first : ℕ) (v : View) → v.wp + 1 ≤ LAST_PASS → (b : Bool) → reaches first v ≡ b → EveryRuleHolds (cond b (move_on_rules first) [])
moves_within first v h true e =
    let n = eqb-true (v.wp + 1) (first + LEAD) (and_parts (is_sw v.mode) (eqb (v.wp + 1) (first + LEAD)) e).1 in
    (lt-ltb first LAST_PASS (omega arith), tt)
moves_within first v h false e = tt
