-- Every refusal of a call has its place, and the rules of a call are tried upward.
use Rattle.std.proofs.Common.{◌≡◌, ℕ, ◌+◌, ◌≤◌, Bool, true, false, cond, ltb, [], ◌∷◌, ◌++◌, Ok, Err, Result, sym, refl, ap, lit≤, arith}
use Rattle.std.specs.List.{AllByRecursion}
use Rattle.refusal.specs.declared.Refusal.{Refusal}
use Rattle.refusal.specs.declared.Refusal.TheVariants.{NoStation, NotSigned, OutOfTurn, PastLastPass}
use Rattle.refusal.specs.declared.limits.TheConstants.{STATIONS}
use Rattle.refusal.specs.Refusals.{place}
use Rattle.refusal.specs.Rules.{Verdict, rule, verdict, TriedUpward}
use Rattle.joining.specs.declared.Joining.{Ghosts}
use Rattle.calls.specs.declared.views.View.{View}
use Rattle.calls.specs.declared.actions.Action.{Action}
use Rattle.calls.specs.declared.actions.Action.TheVariants.{Register, Signal, Wait, Drop, Send, Result as AskResult, View as AskView}
use Rattle.calls.specs.declared.actions.Answer.{Answer}
use Rattle.accumulator.specs.Meaning.{answer_by, total_in}
use Rattle.accumulator.specs.Window.{move_on_rules}
use Rattle.phaser.specs.State.{State, seat}
use Rattle.phaser.specs.Limits.{reaches}
use Rattle.phaser.specs.Steps.{view_of, all_signed, rules, answer_of, state_of, state_by, step}
use Rattle.phaser.specs.Places.{other_station, place_due, PlacesDue}
use Rattle.phaser.proofs.Fine.{Fine, fine_verdict, fine_append}

module _ {V : Type 0} (s : State V) (j : ℕ) where
  abbrev me : View
  me = view_of (seat s j)

  -- the place of a refusal for action x
  abbrev InPlace : Action V → Refusal → Type 0
  InPlace x r = place r ≡ place_due s j x r

  caller : (x : Action V) → ltb j STATIONS ≡ false → InPlace x (NoStation j)
  caller x e = ap (λ b. cond b (other_station j x) j) (sym e)

  moving : (x : Action V) (b : Bool) → Fine (InPlace x) (cond b (move_on_rules s.account.first) [])
  moving x true = (λ e. refl, λ e. tt)
  moving x false = tt

  placed : (x : Action V) → Fine (InPlace x) (rules s j me x)
  placed (Register other r) = (
    caller (Register other r),
    λ here. (
      λ e. ap (λ b. cond b other j) (sym here),
      λ e. (λ e. refl, λ e. (λ e. refl, λ e. (λ e. refl, λ e. tt))),
    ),
  )
  placed Signal = (caller Signal, λ e. (λ e. refl, λ e. (λ e. refl, λ e. (λ e. refl, λ e. (λ e. refl, λ e. tt)))))
  placed Wait = (
    caller Wait,
    λ e. (
      λ e. refl,
      λ e. (
        λ e. refl,
        λ e. (
          λ e. refl,
          λ e. (
            λ e. refl,
            λ e. fine_append (InPlace Wait) (cond (reaches s.account.first me) (move_on_rules s.account.first) []) (rule (all_signed (me.wp + 1) s.members) (NotSigned j) ∷ []) (moving Wait (reaches s.account.first me)) (λ e. refl, λ e. tt),
          ),
        ),
      ),
    ),
  )
  placed Drop = (caller Drop, λ e. (λ e. refl, λ e. (λ e. refl, λ e. tt)))
  placed (Send x) = (
    caller (Send x),
    λ e. (
      λ e. refl,
      λ e. (λ e. refl, λ e. (λ e. refl, λ e. (λ e. refl, λ e. (λ e. refl, λ e. (λ e. refl, λ e. tt))))),
    ),
  )
  placed AskResult = (caller AskResult, λ e. (λ e. refl, λ e. (λ e. refl, λ e. (λ e. refl, λ e. (λ e. refl, λ e. tt)))))
  placed AskView = (caller AskView, λ e. (λ e. refl, λ e. (λ e. refl, λ e. tt)))

-- a step that refuses has the verdict of its rules
refused_by : {V : Type 0} (w : Verdict) (b : Answer V) (u s t : State V) (r : Refusal) → ◌≡◌ {A = Result (Answer V) Refusal × State V} (answer_by w b, state_by w u s) (Err r, t) → w ≡ Err r
refused_by {V} (Ok _) b u s t r e =
    let q : Ok b ≡ Err r = ap (λ (z : Result (Answer V) Refusal × State V). z.0) e in
    let z : ◌≡◌ {A = ℕ} 0 1 = cc in absurd (omega arith)
refused_by {V} (Err w) b u s t r e =
    let q : ◌≡◌ {A = Result (Answer V) Refusal} (Err w) (Err r) = ap (λ (z : Result (Answer V) Refusal × State V). z.0) e in
    let same : w ≡ r = cc in ap Err same

pub places_due : {V : Type 0} (J : Ghosts V) → PlacesDue J
places_due J s t j x r e =
    let v = view_of (seat s j) in
    fine_verdict (λ r. place r ≡ place_due s j x r) (rules s j v x) (placed s j x) r
    (refused_by (verdict (rules s j v x)) (answer_of (total_in J s.account) v x) (state_of J s j v x) s t r e)

-- ---- the order

moving_upward : (b : Bool) (first j : ℕ) (test : Bool) → TriedUpward (rule true (OutOfTurn j) ∷ (rule true (PastLastPass j) ∷ (cond b (move_on_rules first) [] ++ (rule test (NotSigned j) ∷ []))))
moving_upward true first j test = (lit≤ tt, (lit≤ tt, (lit≤ tt, tt)))
moving_upward false first j test = (lit≤ tt, (lit≤ tt, tt))

pub tried_upward : {V : Type 0} (s : State V) (j : ℕ) (v : View) (x : Action V) → TriedUpward (rules s j v x)
tried_upward s j v (Register other r) = (lit≤ tt, (lit≤ tt, (lit≤ tt, (lit≤ tt, tt))))
tried_upward s j v Signal = (lit≤ tt, (lit≤ tt, (lit≤ tt, (lit≤ tt, tt))))
tried_upward s j v Wait = (lit≤ tt, (lit≤ tt, (lit≤ tt, moving_upward (reaches s.account.first v) s.account.first j (all_signed (v.wp + 1) s.members))))
tried_upward s j v Drop = (lit≤ tt, (lit≤ tt, tt))
tried_upward s j v (Send x) = (lit≤ tt, (lit≤ tt, (lit≤ tt, (lit≤ tt, (lit≤ tt, (lit≤ tt, tt))))))
tried_upward s j v AskResult = (lit≤ tt, (lit≤ tt, (lit≤ tt, (lit≤ tt, tt))))
tried_upward s j v AskView = (lit≤ tt, (lit≤ tt, tt))
