-- The state in which a history ends: its level, and its totals, which join what was accepted.
use Rattle.std.proofs.Common.{◌≡◌, ℕ, List, [], ◌∷◌, ◌++◌, sym, refl, ap, ◌∙◌, subst}
use Rattle.std.proofs.lemmas.List.{append-nil, append_assoc}
use Rattle.joining.specs.declared.Joining.{Ghosts}
use Rattle.calls.specs.declared.Mode.{Mode}
use Rattle.joining.specs.Lists.{joining_of}
use Rattle.phaser.specs.State.{State}
use Rattle.phaser.specs.Histories.{AcceptedCall, values_for, value_for}
use Rattle.phaser.proofs.Levels.{Good, step_good, made_good}
use Rattle.phaser.proofs.Runs.{Run, Recorded}
use Rattle.phaser.proofs.Complete.{Sums, and_then, step_sums, made_sums}

-- the state at the end of a run
pub record Ended {V : Type 0} (J : Ghosts V) (whole : ℕ → List V) (t : State V) : Type 0 where
  pub level : ℕ
  pub good : Good level t
  pub sums : Sums J whole t.account

module _ {V : Type 0} (J : Ghosts V) where
  run_ended : (l : ℕ) (s : State V) (h : List (AcceptedCall V)) (t : State V) → Good l s → (sofar : ℕ → List V) → Sums J sofar s.account → Run J s h t →
      (whole : ℕ → List V) → ((n : ℕ) → whole n ≡ sofar n ++ values_for n h) → Ended J whole t
  run_ended l s [] t g sofar sums r whole w = record {
    level = l;
    good = subst (Good l) r g;
    sums = subst (λ (u : State V). Sums J whole u.account) r (λ p k. sums p k ∙ ap (joining_of J) (sym (append-nil (sofar p)) ∙ sym (w p)));
  }
  run_ended l s ((c, a) ∷ h) t g sofar sums r whole w =
      let up = step_good J l s g c.caller c.action a r.0 r.1 in
      run_ended up.level r.0 h t up.good (and_then J sofar c.action a) (step_sums J l s g sofar sums c.caller c.action a r.0 r.1) r.2 whole
      (λ n. w n ∙ sym (append_assoc (sofar n) (value_for n c.action a) (values_for n h)))

  pub ended : (j : ℕ) (mode : Mode) (limit : ℕ) (h : List (AcceptedCall V)) (t : State V) → Recorded J j mode limit h t → Ended J (λ n. values_for n h) t
  ended j mode limit h t hist =
      run_ended 0 _ h t (made_good J j mode limit hist.maker) (λ n. []) (made_sums J limit) hist.run (λ n. values_for n h) (λ n. refl)
