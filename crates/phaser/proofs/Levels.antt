-- The level of a board: every waiter has observed at most it, every signaler has signed at least it, and it never falls.
use Rattle.std.proofs.Common.{◌≡◌, ℕ, ◌+◌, ◌-◌, ◌<◌, ◌≤◌, max, Bool, true, false, cond, ◌&&◌, eqb, length, replicate, Some, None, Option, sym, refl, ap, ◌∙◌, subst, ⊎_elim, lit≤, arith}
use Rattle.std.proofs.lemmas.List.{length-set, length-replicate}
use Rattle.std.proofs.lemmas.Bool.{eqb-true, eqb-false, and_parts, false≢true}
use Rattle.refusal.specs.declared.limits.TheConstants.{STATIONS, LAST_PASS}
use Rattle.joining.specs.declared.Joining.{Ghosts}
use Rattle.calls.specs.declared.Mode.{Mode}
use Rattle.calls.specs.declared.Mode.TheVariants.{SignalWait, SignalOnly, WaitOnly}
use Rattle.calls.specs.declared.views.View.{View}
use Rattle.calls.specs.declared.actions.Action.{Action}
use Rattle.calls.specs.declared.actions.Action.TheVariants.{Register, Signal, Wait, Drop, Send, Result as AskResult, View as AskView}
use Rattle.calls.specs.declared.actions.Answer.{Answer}
use Rattle.calls.specs.Views.{signs, waits, SoundCounts}
use Rattle.accumulator.specs.declared.TheConstants.{KEPT, LEAD}
use Rattle.accumulator.specs.Meaning.{neutral_totals}
use Rattle.phaser.specs.State.{State, seat, first_view, new_state, SoundState}
use Rattle.phaser.specs.Rules.{view_after_signal, view_after_wait, newcomer_view, put, PhaserState}
use Rattle.phaser.specs.Limits.{is_sw, reaches, Accepted}
use Rattle.phaser.proofs.Seats.{none_some, Everyone, everyone_put, of_some, shown_seat, put_cases, made_seat}

-- what holds of a member's view at level l and first kept pass f
abbrev pub LevelCounts : Mode → ℕ → ℕ → ℕ → ℕ → Type 0
LevelCounts SignalWait sp wp l f = (wp ≤ sp) × (sp ≤ wp + 1) × (l ≤ sp) × (wp ≤ l) × (wp ≤ f + 1)
LevelCounts SignalOnly sp wp l f = (wp ≤ sp) × (l ≤ sp)
LevelCounts WaitOnly sp wp l f = wp ≤ l

abbrev pub LevelView : ℕ → ℕ → View → Type 0
LevelView l f v = LevelCounts v.mode v.sp v.wp l f

level_bring : (m n : Mode) (sp wp l f : ℕ) → (waits n ≡ true → waits m ≡ true) → (signs n ≡ true → signs m ≡ true) → LevelCounts m sp wp l f → LevelCounts n sp wp l f
level_bring SignalWait SignalWait sp wp l f w s h = h
level_bring SignalWait SignalOnly sp wp l f w s h = omega arith
level_bring SignalWait WaitOnly sp wp l f w s h = omega arith
level_bring SignalOnly SignalWait sp wp l f w s h = absurd (false≢true (w refl))
level_bring SignalOnly SignalOnly sp wp l f w s h = h
level_bring SignalOnly WaitOnly sp wp l f w s h = absurd (false≢true (w refl))
level_bring WaitOnly SignalWait sp wp l f w s h = absurd (false≢true (s refl))
level_bring WaitOnly SignalOnly sp wp l f w s h = absurd (false≢true (s refl))
level_bring WaitOnly WaitOnly sp wp l f w s h = h

level_signal : (m : Mode) (sp wp l f : ℕ) → (m ≡ SignalWait → sp ≡ wp) → LevelCounts m sp wp l f → LevelCounts m (sp + 1) wp l f
level_signal SignalWait sp wp l f e h = let k = e refl in omega arith
level_signal SignalOnly sp wp l f e h = omega arith
level_signal WaitOnly sp wp l f e h = h

-- a pass n that every signaler has signed may become the level
level_raise : (m : Mode) (sp wp l f n g : ℕ) → (signs m ≡ true → n ≤ sp) → f ≤ g → LevelCounts m sp wp l f → LevelCounts m sp wp (max l n) g
level_raise SignalWait sp wp l f n g e r h = let k = e refl in omega arith
level_raise SignalOnly sp wp l f n g e r h = let k = e refl in omega arith
level_raise WaitOnly sp wp l f n g e r h = omega arith

level_wait : (m : Mode) (sp wp l f : ℕ) → waits m ≡ true → (m ≡ SignalWait → sp ≡ wp + 1) → (is_sw m ≡ true → wp ≤ f) → LevelCounts m sp wp (max l (wp + 1)) f → LevelCounts m sp (wp + 1) (max l (wp + 1)) f
level_wait SignalWait sp wp l f b e s h = let k = e refl in let q = s refl in omega arith
level_wait SignalOnly sp wp l f b e s h = absurd (false≢true b)
level_wait WaitOnly sp wp l f b e s h = let k = h in omega arith

level_sound : (m : Mode) (sp wp l f : ℕ) → LevelCounts m sp wp l f → SoundCounts m sp wp
level_sound SignalWait sp wp l f h = (h.0, h.1)
level_sound SignalOnly sp wp l f h = h.0
level_sound WaitOnly sp wp l f h = tt

level_new : (m : Mode) → LevelView 0 0 (first_view m)
level_new SignalWait = omega arith
level_new SignalOnly = omega arith
level_new WaitOnly = omega arith

-- an SW's bounds
pub sw_bounds : (m : Mode) (sp wp l f : ℕ) → is_sw m ≡ true → LevelCounts m sp wp l f → (wp ≤ sp) × (sp ≤ wp + 1) × (l ≤ sp) × (wp ≤ l) × (wp ≤ f + 1)
sw_bounds SignalWait sp wp l f e h = h
sw_bounds SignalOnly sp wp l f e h = absurd (false≢true e)
sw_bounds WaitOnly sp wp l f e h = absurd (false≢true e)

right_false : (x y : Bool) → x ≡ true → (x && y) ≡ false → y ≡ false
right_false true y e h = h
right_false false y e h = absurd (false≢true e)

-- neither count is past the last pass
pub record InRange (v : View) : Type 0 where
  pub signed : v.sp ≤ LAST_PASS
  pub observed : v.wp ≤ LAST_PASS

-- the invariant
pub record Good {V : Type 0} (l : ℕ) (s : State V) : Type 0 where
  pub table : length s.members ≡ STATIONS
  pub each : Everyone (LevelView l s.account.first) s
  pub counted : Everyone InRange s
  pub behind : s.account.first ≤ l - 1
  pub window : length s.account.totals ≡ KEPT

pub good_sound : {V : Type 0} (l : ℕ) (s : State V) → Good l s → SoundState s
good_sound l s g = record {
  seats = record {
    table = g.table;
    views = λ k v e. record {
      counts = level_sound v.mode v.sp v.wp l s.account.first (g.each k v e);
      signed = (g.counted k v e).signed;
      observed = (g.counted k v e).observed;
    };
  };
  window = g.window;
}

-- the level rises or stays
pub record Rose {V : Type 0} (l : ℕ) (t : State V) : Type 0 where
  pub level : ℕ
  pub up : l ≤ level
  pub good : Good level t

-- what an SW wait has observed before it is at most the first kept pass after it
pub wait_first : (v : View) (l f : ℕ) → LevelView l f v → (b : Bool) → reaches f v ≡ b → is_sw v.mode ≡ true → v.wp ≤ cond b (f + 1) f
wait_first v l f h true e m =
    let p = and_parts (is_sw v.mode) (eqb (v.wp + 1) (f + LEAD)) e in
    omega (arith, eqb-true _ _ p.1)
wait_first v l f h false e m =
    let ne = eqb-false (v.wp + 1) (f + LEAD) (right_false (is_sw v.mode) _ m e) in
    let q = sw_bounds v.mode v.sp v.wp l f m h in
    omega arith

-- the first kept pass stays below the level
wait_behind : (v : View) (l f : ℕ) → f ≤ l - 1 → (b : Bool) → reaches f v ≡ b → (f ≤ cond b (f + 1) f) × (cond b (f + 1) f ≤ max l (v.wp + 1) - 1)
wait_behind v l f h true e = let n = eqb-true (v.wp + 1) (f + LEAD) (and_parts (is_sw v.mode) (eqb (v.wp + 1) (f + LEAD)) e).1 in omega arith
wait_behind v l f h false e = omega arith

module _ {V : Type 0} (J : Ghosts V) (l : ℕ) (s : State V) (g : Good l s) (j : ℕ) where
  -- a call that leaves the first kept pass leaves the level
  stays : (x : Action V) (a : Answer V) (t : State V) (d : Accepted J s j x a t) → t.account.first ≡ s.account.first → Everyone (LevelView l s.account.first) t → Everyone InRange t → Rose l t
  stays x a t d e all counted = record {
    level = l;
    up = omega arith;
    good = record { table = d.limits.table; each = subst (λ (f : ℕ). Everyone (LevelView l f) t) (sym e) all; counted = counted; behind = omega (arith, g.behind); window = d.limits.window };
  }

  -- with these seats and the same level
  sits : (x : Action V) (a : Answer V) (t : State V) (d : Accepted J s j x a t) → t.account.first ≡ s.account.first → (k : ℕ) (o : Option View) → d.next.phaser ≡ put (seat s) k o → ((v : View) → o ≡ Some v → LevelView l s.account.first v) → ((v : View) → o ≡ Some v → InRange v) → Rose l t
  sits x a t d e k o p new ranged =
      let at = shown_seat J t d.next (put (seat s) k o) d.shows p in
      stays x a t d e (everyone_put (LevelView l s.account.first) s t k o at new g.each) (everyone_put InRange s t k o at ranged g.counted)

  same_seats : (x : Action V) (a : Answer V) (t : State V) (d : Accepted J s j x a t) → t.account.first ≡ s.account.first → d.next.phaser ≡ seat s → Rose l t
  same_seats x a t d e p =
      let at = shown_seat J t d.next (seat s) d.shows p in
      stays x a t d e (λ k v q. g.each k v (sym (at k) ∙ q)) (λ k v q. g.counted k v (sym (at k) ∙ q))

  -- an accepted call keeps the invariant
  pub step_good : (x : Action V) (a : Answer V) (t : State V) → Accepted J s j x a t → Rose l t
  step_good (Register other r) a t d =
      let v = d.view in
      let rule = d.applies.0 in
      sits (Register other r) a t d d.limits.first other (Some (newcomer_view r v)) rule.leaves
      (λ w e. of_some (LevelView l s.account.first) (newcomer_view r v) w e (level_bring v.mode r v.sp v.wp l s.account.first rule.waiter rule.signer (g.each j v rule.member)))
      (λ w e. of_some InRange (newcomer_view r v) w e (let c = g.counted j v rule.member in record { signed = c.signed; observed = c.observed }))
  step_good Signal a t d =
      let v = d.view in
      let rule = d.applies.0 in
      sits Signal a t d d.limits.first j (Some (view_after_signal v)) rule.leaves
      (λ w e. of_some (LevelView l s.account.first) (view_after_signal v) w e (level_signal v.mode v.sp v.wp l s.account.first rule.turn (g.each j v rule.member)))
      (λ w e. of_some InRange (view_after_signal v) w e (record { signed = d.limits.room; observed = (g.counted j v rule.member).observed }))
  step_good Wait a t d =
      let v = d.view in
      let rule = d.applies.0 in
      let f : ℕ = s.account.first in
      let n : ℕ = v.wp + 1 in
      let f' : ℕ = cond (reaches f v) (f + 1) f in
      let b = wait_behind v l f g.behind (reaches f v) refl in
      let raised : Everyone (LevelView (max l n) f') s = λ k w e. level_raise w.mode w.sp w.wp l f n f' (rule.await k w e) b.0 (g.each k w e) in
      let mine = level_wait v.mode v.sp v.wp l f' rule.waiter rule.turn (wait_first v l f (g.each j v rule.member) (reaches f v) refl) (raised j v rule.member) in
      let all : Everyone (LevelView (max l n) f') t = everyone_put (LevelView (max l n) f') s t j (Some (view_after_wait v)) (shown_seat J t d.next _ d.shows rule.leaves) (λ w e. of_some (LevelView (max l n) f') (view_after_wait v) w e mine) raised in
      record {
        level = max l n;
        up = omega arith;
        good = record {
          table = d.limits.table;
          each = subst (λ (i : ℕ). Everyone (LevelView (max l n) i) t) (sym d.limits.first) all;
          counted = everyone_put InRange s t j (Some (view_after_wait v)) (shown_seat J t d.next _ d.shows rule.leaves) (λ w e. of_some InRange (view_after_wait v) w e (record { signed = (g.counted j v rule.member).signed; observed = d.limits.room })) g.counted;
          behind = subst (λ (i : ℕ). i ≤ max l n - 1) (sym d.limits.first) b.1;
          window = d.limits.window;
        };
      }
  step_good Drop a t d = sits Drop a t d d.limits.first j None d.applies.0.leaves (λ w e. absurd (none_some w e)) (λ w e. absurd (none_some w e))
  step_good (Send x) a t d = same_seats (Send x) a t d d.limits.first d.applies.1
  step_good AskResult a t d = same_seats AskResult a t d d.limits.first (ap (λ (c : PhaserState V). c.phaser) d.applies.1)
  step_good AskView a t d = same_seats AskView a t d d.limits.first (ap (λ (c : PhaserState V). c.phaser) d.applies.1)

pub made_good : {V : Type 0} (J : Ghosts V) (j : ℕ) (mode : Mode) (limit : ℕ) → j < STATIONS → Good 0 (new_state J j mode limit)
unfolding neutral_totals
made_good J j mode limit h = record {
  table = length-set (replicate STATIONS None) j (Some (first_view mode)) ∙ length-replicate {A = Option View} STATIONS None;
  each = λ k v e.
      let o : Option View = put (λ i. None) j (Some (first_view mode)) k in
      let at : o ≡ Some v = sym (made_seat J j mode limit h k) ∙ e in
      ⊎_elim (λ c. of_some (LevelView 0 0) (first_view mode) v (sym c.1 ∙ at) (level_new mode)) (λ c. absurd (none_some v (sym c.1 ∙ at))) (put_cases (λ i. None) j (Some (first_view mode)) k);
  counted = λ k v e.
      let o : Option View = put (λ i. None) j (Some (first_view mode)) k in
      let at : o ≡ Some v = sym (made_seat J j mode limit h k) ∙ e in
      ⊎_elim (λ c. of_some InRange (first_view mode) v (sym c.1 ∙ at) (record { signed = lit≤ tt; observed = lit≤ tt })) (λ c. absurd (none_some v (sym c.1 ∙ at))) (put_cases (λ i. None) j (Some (first_view mode)) k);
  behind = omega arith;
  window = length-replicate KEPT J.neutral;
}
