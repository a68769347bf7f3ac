-- Who signs and who waits, when one view happened before another, and which counts a view may have.
use Rattle.std.specs.Prelude.{◌≡◌, ℕ, ◌+◌, ◌<◌, ◌≤◌, Bool, true, false}
use Rattle.calls.specs.declared.Mode.{Mode}
use Rattle.calls.specs.declared.Mode.TheVariants.{SignalWait, SignalOnly, WaitOnly}
use Rattle.calls.specs.declared.views.View.{View}

-- a signaler is SW or SO
abbrev pub signs : Mode → Bool
signs SignalWait = true
signs SignalOnly = true
signs WaitOnly = false

-- a waiter is SW or WO
abbrev pub waits : Mode → Bool
waits SignalWait = true
waits SignalOnly = false
waits WaitOnly = true

-- v happened before w: v signs, has signed less than w has observed, and w waits
pub record Before (v w : View) : Type 0 where
  pub signaler : signs v.mode ≡ true
  pub less : v.sp < w.wp
  pub waiter : waits w.mode ≡ true

-- the counts that a view of each mode may have
abbrev pub SoundCounts : Mode → ℕ → ℕ → Type 0
SoundCounts SignalWait sp wp = (wp ≤ sp) × (sp ≤ wp + 1)
SoundCounts SignalOnly sp wp = wp ≤ sp
SoundCounts WaitOnly sp wp = Unit {0}
