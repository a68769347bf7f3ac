-- No call on a board at a level is refused for a pass that is not kept, nor for a move on.
use Rattle.std.proofs.Common.{◌≡◌, ℕ, ◌+◌, ◌<◌, ◌≤◌, true, [], ◌∷◌, is_some, sym, refl, ap, ◌∙◌, arith}
use Rattle.std.proofs.lemmas.Bool.{leb-true, le-leb, lt-ltb, and_from}
use Rattle.refusal.specs.declared.Refusal.{Refusal}
use Rattle.refusal.specs.declared.Refusal.TheVariants.{NoStation, NotMember, AlreadyMember, ModeDenied, OutOfTurn, PastLastPass, NotSigned, NothingObserved, NoCell}
use Rattle.refusal.specs.declared.Layer.TheVariants.{Board, Accumulator}
use Rattle.refusal.specs.Refusals.{layer}
use Rattle.refusal.specs.declared.limits.TheConstants.{LAST_PASS}
use Rattle.refusal.specs.Rules.{rule}
use Rattle.calls.specs.declared.views.View.{View}
use Rattle.calls.specs.declared.actions.Action.{Action}
use Rattle.calls.specs.declared.actions.Action.TheVariants.{Register, Signal, Wait, Drop, Send, Result as AskResult, View as AskView}
use Rattle.accumulator.specs.Window.{keeps, total_rules}
use Rattle.accumulator.specs.declared.TheConstants.{KEPT}
use Rattle.phaser.specs.State.{State, seat}
use Rattle.phaser.specs.Limits.{is_sw, reaches}
use Rattle.phaser.specs.Steps.{view_of, all_signed, moving_rules, rules}
use Rattle.phaser.specs.Law.{Expected}
use Rattle.phaser.proofs.Fine.{Fine, held, fine_append}
use Rattle.phaser.proofs.Seats.{sw_mode}
use Rattle.phaser.proofs.Levels.{Good, good_sound, sw_bounds}
use Rattle.phaser.proofs.Turns.{present, sign_in_turn, moves_within}

-- the board's own refusals, and the one for want of a cell
of_board : (r : Refusal) → layer r ≡ Board → Expected r
of_board r e = record {
  kept = λ p q. let l : Board ≡ Accumulator = sym e ∙ ap layer q in let z : ◌≡◌ {A = ℕ} 0 1 = cc in omega arith;
  moves = λ f q. let l : Board ≡ Accumulator = sym e ∙ ap layer q in let z : ◌≡◌ {A = ℕ} 0 1 = cc in omega arith;
}

no_cell : (j : ℕ) → Expected (NoCell j)
no_cell j = record { kept = λ p e. let z : ◌≡◌ {A = ℕ} 0 1 = cc in omega arith; moves = λ f e. let z : ◌≡◌ {A = ℕ} 0 1 = cc in omega arith }

-- ---- what an SW may read is kept, and what it may send to

kept_within : (f p : ℕ) → f ≤ p → p < f + KEPT → keeps f p ≡ true
kept_within f p low high = and_from _ _ (le-leb f p low) (lt-ltb p (f + KEPT) high)

module _ {V : Type 0} (l : ℕ) (s : State V) (g : Good l s) (j : ℕ) where
  abbrev me : View
  me = view_of (seat s j)

  read_kept : is_some (seat s j) ≡ true → is_sw me.mode ≡ true → keeps s.account.first me.wp ≡ true
  read_kept here sw =
      let b = sw_bounds me.mode me.sp me.wp l s.account.first sw (g.each j me (present (seat s j) here)) in
      let f = g.behind in
      kept_within s.account.first me.wp (omega arith) (omega arith)

  send_kept : is_some (seat s j) ≡ true → is_sw me.mode ≡ true → me.sp ≡ me.wp → keeps s.account.first (me.sp + 1) ≡ true
  send_kept here sw turn =
      let b = sw_bounds me.mode me.sp me.wp l s.account.first sw (g.each j me (present (seat s j) here)) in
      let f = g.behind in
      kept_within s.account.first (me.sp + 1) (omega arith) (omega arith)

  pub fine : (x : Action V) → Fine Expected (rules s j me x)
  fine (Register other r) =
      (λ e. of_board (NoStation j) refl, λ e. (λ e. of_board (NoStation other) refl, λ e. (λ e. of_board (NotMember j) refl, λ e. (λ e. of_board (AlreadyMember other) refl, λ e. (λ e. of_board (ModeDenied j) refl, λ e. tt)))))
  fine Signal = (λ e. of_board (NoStation j) refl, λ e. (λ e. of_board (NotMember j) refl, λ e. (λ e. of_board (ModeDenied j) refl, λ e. (λ e. of_board (OutOfTurn j) refl, λ e. (λ e. of_board (PastLastPass j) refl, λ e. tt)))))
  fine Wait = (
    λ e. of_board (NoStation j) refl,
    λ e. (
      λ e. of_board (NotMember j) refl,
      λ e. (
        λ e. of_board (ModeDenied j) refl,
        λ e. (
          λ e. of_board (OutOfTurn j) refl,
          λ e. (
            λ e. of_board (PastLastPass j) refl,
            λ within. fine_append Expected (moving_rules s.account.first me) (rule (all_signed (me.wp + 1) s.members) (NotSigned j) ∷ []) (held Expected (moving_rules s.account.first me) (moves_within s.account.first me (leb-true (me.wp + 1) LAST_PASS within) (reaches s.account.first me) refl)) (λ e. of_board (NotSigned j) refl, λ e. tt),
          ),
        ),
      ),
    ),
  )
  fine Drop = (λ e. of_board (NoStation j) refl, λ e. (λ e. of_board (NotMember j) refl, λ e. (λ e. of_board (ModeDenied j) refl, λ e. tt)))
  fine (Send x) = (
    λ e. of_board (NoStation j) refl,
    λ e. (
      λ e. of_board (NotMember j) refl,
      λ here. (
        λ e. of_board (ModeDenied j) refl,
        λ sw. (
          λ e. of_board (OutOfTurn j) refl,
          λ turn. (
            λ e. of_board (PastLastPass j) refl,
            λ e. (
              λ e. no_cell j,
              λ e. held Expected (total_rules s.account.first (me.sp + 1)) (send_kept here sw (sign_in_turn me.mode me.sp me.wp ((good_sound l s g).seats.views j me (present (seat s j) here)).counts turn (sw_mode me.mode sw)), tt),
            ),
          ),
        ),
      ),
    ),
  )
  fine AskResult =
      (λ e. of_board (NoStation j) refl, λ e. (λ e. of_board (NotMember j) refl, λ here. (λ e. of_board (ModeDenied j) refl, λ sw. (λ e. of_board (NothingObserved j) refl, λ e. held Expected (total_rules s.account.first me.wp) (read_kept here sw, tt)))))
  fine AskView = (λ e. of_board (NoStation j) refl, λ e. (λ e. of_board (NotMember j) refl, λ e. (λ e. of_board (ModeDenied j) refl, λ e. tt)))
