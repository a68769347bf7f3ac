-- No view read later happened before one read earlier, and over the views read happened-before is a strict order.
use Rattle.std.proofs.Common.{◌≡◌, ℕ, zero, suc, ◌<◌, ◌≤◌, true, ◌⊎◌, List, [], ◌∷◌, ◌++◌, Some, sym, ap, subst, inl, inr, ⊎_elim, arith}
use Rattle.std.specs.List.{slice_get}
use Rattle.std.proofs.lemmas.Bool.{false≢true}
use Rattle.joining.specs.declared.Joining.{Ghosts}
use Rattle.calls.specs.declared.Mode.{Mode}
use Rattle.calls.specs.declared.Mode.TheVariants.{SignalWait, SignalOnly, WaitOnly}
use Rattle.calls.specs.declared.views.View.{View}
use Rattle.calls.specs.declared.actions.Action.{Action}
use Rattle.calls.specs.declared.actions.Action.TheVariants.{View as AskView}
use Rattle.calls.specs.declared.actions.Answer.{Answer}
use Rattle.calls.specs.Views.{signs, waits, Before}
use Rattle.phaser.specs.State.{State, seat}
use Rattle.phaser.specs.Limits.{Accepted}
use Rattle.phaser.specs.Histories.{AcceptedCall, views_read, view_read}
use Rattle.phaser.specs.Law.{ReadInOrder, StrictOrder}
use Rattle.phaser.proofs.Seats.{none_some}
use Rattle.phaser.proofs.Levels.{LevelCounts, LevelView, Good, step_good, made_good}
use Rattle.phaser.proofs.Runs.{Run, Recorded}

-- a view that was read at level l
abbrev Seen : ℕ → View → Type 0
Seen l v = (f : ℕ) × LevelView l f v

-- views read one after the other, at levels that do not fall
abbrev Rising : ℕ → List View → Type 0
Rising l [] = Unit {0}
Rising l (v ∷ vs) = (m : ℕ) × (l ≤ m) × Seen m v × Rising m vs

rising_up : (l m : ℕ) (vs : List View) → l ≤ m → Rising m vs → Rising l vs
rising_up l m [] h r = tt
rising_up l m (v ∷ vs) h r = let k = r.1 in (r.0, omega arith, r.2, r.3)

-- what an accepted call lets read: nothing, or the caller's view
one_view_read : {V : Type 0} (J : Ghosts V) (s : State V) (j : ℕ) (x : Action V) (a : Answer V) (t : State V) → Accepted J s j x a t →
    (view_read a ≡ []) ⊎ ((v : View) × (view_read a ≡ v ∷ []) × (seat s j ≡ Some v))
one_view_read J s j AskView a t d = inr (d.view, ap view_read d.applies.2, d.applies.0)
one_view_read J s j _ a t d = inl (ap view_read d.applies.2)

module _ {V : Type 0} (J : Ghosts V) where
  read_rising : (l : ℕ) (s : State V) (h : List (AcceptedCall V)) (t : State V) → Good l s → Run J s h t → Rising l (views_read h)
  read_rising l s [] t g r = tt
  read_rising l s ((c, a) ∷ h) t g r =
      let up = step_good J l s g c.caller c.action a r.0 r.1 in
      let rest = read_rising up.level r.0 h t up.good r.2 in
      ⊎_elim
      (λ e. subst (λ (vs : List View). Rising l (vs ++ views_read h)) (sym e) (rising_up l up.level (views_read h) up.up rest))
      (λ e. subst (λ (vs : List View). Rising l (vs ++ views_read h)) (sym e.1) (l, omega arith, (s.account.first, g.each c.caller e.0 e.2), rising_up l up.level (views_read h) up.up rest))
      (one_view_read J s c.caller c.action a r.0 r.1)

-- a view in the list was seen at some level from l on
found : (l : ℕ) (vs : List View) (k : ℕ) (v : View) → Rising l vs → slice_get vs k ≡ Some v → (m : ℕ) × (l ≤ m) × Seen m v
found l [] k v r e = absurd (none_some v e)
found l (w ∷ vs) zero v r e = (r.0, r.1, subst (Seen r.0) (let q : w ≡ v = cc in q) r.2)
found l (w ∷ vs) (suc k) v r e = let f = found r.0 vs k v r.3 e in let a = r.1 in let b = f.1 in (f.0, omega arith, f.2)

found_two : (l : ℕ) (vs : List View) (i k : ℕ) (v w : View) → i < k → Rising l vs → slice_get vs i ≡ Some v → slice_get vs k ≡ Some w →
    (m n : ℕ) × (m ≤ n) × Seen m v × Seen n w
found_two l [] i k v w h r e f = absurd (none_some v e)
found_two l (x ∷ vs) i zero v w h r e f = absurd (omega arith)
found_two l (x ∷ vs) zero (suc k) v w h r e f =
    let y = found r.0 vs k w r.3 f in
    (r.0, y.0, y.1, subst (Seen r.0) (let q : x ≡ v = cc in q) r.2, y.2)
found_two l (x ∷ vs) (suc i) (suc k) v w h r e f = found_two r.0 vs i k v w (omega arith) r.3 e f

waiter_below : (m : Mode) (sp wp l f : ℕ) → waits m ≡ true → LevelCounts m sp wp l f → wp ≤ l
waiter_below SignalWait sp wp l f e h = h.3
waiter_below SignalOnly sp wp l f e h = absurd (false≢true e)
waiter_below WaitOnly sp wp l f e h = h

signaler_above : (m : Mode) (sp wp l f : ℕ) → signs m ≡ true → LevelCounts m sp wp l f → l ≤ sp
signaler_above SignalWait sp wp l f e h = h.2
signaler_above SignalOnly sp wp l f e h = h.1
signaler_above WaitOnly sp wp l f e h = absurd (false≢true e)

not_before : (m n : ℕ) (v w : View) → m ≤ n → Seen m v → Seen n w → ¬ (Before w v)
not_before m n v w h p q b =
    let x = waiter_below v.mode v.sp v.wp m p.0 b.waiter p.1 in
    let y = signaler_above w.mode w.sp w.wp n q.0 b.signaler q.1 in
    let z = b.less in
    omega arith

-- a view that is before one and after another has observed at most what it has signed
middle : (l : ℕ) (v : View) → Seen l v → signs v.mode ≡ true → waits v.mode ≡ true → v.wp ≤ v.sp
middle l v p a b =
    let x = waiter_below v.mode v.sp v.wp l p.0 b p.1 in
    let y = signaler_above v.mode v.sp v.wp l p.0 a p.1 in
    omega arith

in_order : (vs : List View) → Rising 0 vs → ReadInOrder vs
in_order vs r i k v w lt e f b =
    let q = found_two 0 vs i k v w lt r e f in
    not_before q.0 q.1 v w q.2 q.3 q.4 b

strict : (vs : List View) → Rising 0 vs → StrictOrder vs
strict vs r =
    let mid : (j : ℕ) (v : View) → slice_get vs j ≡ Some v → signs v.mode ≡ true → waits v.mode ≡ true → v.wp ≤ v.sp
    = λ j v e a b. let q = found 0 vs j v r e in middle q.0 v q.2 a b in
    record {
      transitive = λ i j k u v w eu ev ew p q. record { signaler = p.signaler; less = let m = mid j v ev q.signaler p.waiter in omega (arith, p.less, q.less); waiter = q.waiter };
      irreflexive = λ i v e p. let m = mid i v e p.signaler p.waiter in omega (arith, p.less);
      asymmetric = λ i j v w ev ew p q. let m = mid i v ev p.signaler q.waiter in let n = mid j w ew q.signaler p.waiter in omega (arith, p.less, q.less);
    }

module _ {V : Type 0} (J : Ghosts V) (j : ℕ) (mode : Mode) (limit : ℕ) (h : List (AcceptedCall V)) (t : State V) (made-run : Recorded J j mode limit h t) where
  rising : Rising 0 (views_read h)
  rising = read_rising J 0 _ h t (made_good J j mode limit made-run.maker) made-run.run

  pub reads_in_order : ReadInOrder (views_read h)
  reads_in_order = in_order (views_read h) rising

  pub reads_causal : StrictOrder (views_read h)
  reads_causal = strict (views_read h) rising
