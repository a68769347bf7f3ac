-- The rules of a phaser with an accumulator, on boards without limits: premises first, what a call leaves last.
use Rattle.std.specs.Prelude.{◌≡◌, ℕ, ◌+◌, ◌<◌, ◌≤◌, true, cond, Some, None, Option, ◌==◌}
use Rattle.calls.specs.declared.Mode.{Mode}
use Rattle.calls.specs.declared.Mode.TheVariants.{SignalWait}
use Rattle.calls.specs.declared.views.View.{View}
use Rattle.calls.specs.declared.actions.Action.{Action}
use Rattle.calls.specs.declared.actions.Action.TheVariants.{Register, Signal, Wait, Drop, Send, Result as AskResult, View as AskView}
use Rattle.calls.specs.declared.actions.Answer.{Answer}
use Rattle.calls.specs.declared.actions.Answer.TheVariants.{Registered, Signaled, Observed, Dropped, Sent, Total, Viewed}
use Rattle.calls.specs.Views.{signs, waits}

-- a finite map from stations to views
abbrev pub Phaser : Type 0
Phaser = ℕ → Option View

-- the map with y at t
abbrev pub put : {Y : Type 0} → (ℕ → Y) → ℕ → Y → ℕ → Y
put f t y k = cond (k == t) y (f k)

abbrev pub view_after_signal : View → View
view_after_signal v = record { mode = v.mode; sp = v.sp + 1; wp = v.wp }

abbrev pub view_after_wait : View → View
view_after_wait v = record { mode = v.mode; sp = v.sp; wp = v.wp + 1 }

-- a newcomer of mode r takes the counts of who brings it in
abbrev pub newcomer_view : Mode → View → View
newcomer_view r v = record { mode = r; sp = v.sp; wp = v.wp }

-- every signaler of P has signed pass n
abbrev pub Await : Phaser → ℕ → Type 0
Await P n = (k : ℕ) (w : View) → P k ≡ Some w → signs w.mode ≡ true → n ≤ w.sp

-- ---- the phaser's own rules: station t, with the view v, leads from P to Q

pub record Signals (P : Phaser) (t : ℕ) (v : View) (Q : Phaser) : Type 0 where
  pub member : P t ≡ Some v
  pub signer : signs v.mode ≡ true
  pub turn : v.mode ≡ SignalWait → v.sp ≡ v.wp
  pub leaves : Q ≡ put P t (Some (view_after_signal v))

pub record Waits (P : Phaser) (t : ℕ) (v : View) (Q : Phaser) : Type 0 where
  pub await : Await P (v.wp + 1)
  pub member : P t ≡ Some v
  pub waiter : waits v.mode ≡ true
  pub turn : v.mode ≡ SignalWait → v.sp ≡ v.wp + 1
  pub leaves : Q ≡ put P t (Some (view_after_wait v))

pub record Registers (P : Phaser) (t other : ℕ) (r : Mode) (v : View) (Q : Phaser) : Type 0 where
  pub absent : P other ≡ None
  pub member : P t ≡ Some v
  pub waiter : waits r ≡ true → waits v.mode ≡ true
  pub signer : signs r ≡ true → signs v.mode ≡ true
  pub leaves : Q ≡ put P other (Some (newcomer_view r v))

pub record Drops (P : Phaser) (t : ℕ) (v : View) (Q : Phaser) : Type 0 where
  pub member : P t ≡ Some v
  pub leaves : Q ≡ put P t None

-- ---- the accumulator's beside them, T being the totals of the passes

-- the value joins the pass that the sender signs next, which leads from T to U
pub record Sends {V : Type 0} (join : V → V → V) (P : Phaser) (T : ℕ → V) (t : ℕ) (x : V) (v : View) (U : ℕ → V) : Type 0 where
  pub member : P t ≡ Some v
  pub sender : v.mode ≡ SignalWait
  pub turn : v.sp ≡ v.wp
  pub leaves : U ≡ put T (v.sp + 1) (join (T (v.sp + 1)) x)

pub record Results (P : Phaser) (t : ℕ) (v : View) : Type 0 where
  pub member : P t ≡ Some v
  pub reader : v.mode ≡ SignalWait
  pub some : 0 < v.wp

-- ---- all of them

pub record PhaserState (V : Type 0) : Type 0 where
  pub phaser : Phaser
  pub totals : ℕ → V

-- an action's rule leads from c to d and answers a
abbrev pub Applies : {V : Type 0} → (V → V → V) → PhaserState V → ℕ → Action V → View → Answer V → PhaserState V → Type 0
Applies join c t (Register other r) v a d = Registers c.phaser t other r v d.phaser × (d.totals ≡ c.totals) × (a ≡ Registered v.sp v.wp)
Applies join c t Signal v a d = Signals c.phaser t v d.phaser × (d.totals ≡ c.totals) × (a ≡ Signaled (v.sp + 1))
Applies join c t Wait v a d = Waits c.phaser t v d.phaser × (d.totals ≡ c.totals) × (a ≡ Observed (v.wp + 1))
Applies join c t Drop v a d = Drops c.phaser t v d.phaser × (d.totals ≡ c.totals) × (a ≡ Dropped)
Applies join c t (Send x) v a d = Sends join c.phaser c.totals t x v d.totals × (d.phaser ≡ c.phaser) × (a ≡ Sent (v.sp + 1))
Applies join c t AskResult v a d = Results c.phaser t v × (d ≡ c) × (a ≡ Total v.wp (c.totals v.wp))
Applies join c t AskView v a d = (c.phaser t ≡ Some v) × (d ≡ c) × (a ≡ Viewed v)
