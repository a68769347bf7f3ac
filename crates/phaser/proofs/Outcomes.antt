-- A rule has one outcome.
use Rattle.std.proofs.Common.{◌≡◌, ℕ, Some, sym, ap, ◌∙◌, subst}
use Rattle.joining.specs.declared.Joining.{Ghosts}
use Rattle.calls.specs.declared.views.View.{View}
use Rattle.calls.specs.declared.actions.Action.{Action}
use Rattle.calls.specs.declared.actions.Action.TheVariants.{Send, Result as AskResult, View as AskView}
use Rattle.calls.specs.declared.actions.Answer.{Answer}
use Rattle.phaser.specs.State.{State, seat}
use Rattle.phaser.specs.Rules.{PhaserState, Applies}
use Rattle.phaser.specs.Limits.{first_after, phaser_state, Shows, Accepted}
use Rattle.phaser.proofs.Seats.{same_view}
use Rattle.phaser.proofs.Shown.{same_state}

module _ {V : Type 0} (J : Ghosts V) (s : State V) (j : ℕ) where
  pub member : (x : Action V) (v : View) (a : Answer V) (d : PhaserState V) → Applies J.joined (phaser_state J s) j x v a d → seat s j ≡ Some v
  member AskView v a d h = h.0
  member _ v a d h = h.0.member

  both : (d e : PhaserState V) → d.phaser ≡ e.phaser → d.totals ≡ e.totals → d ≡ e
  both d e p q = λ i. record { phaser = p i; totals = q i }

  one_outcome : (x : Action V) (v : View) (a b : Answer V) (d e : PhaserState V) → Applies J.joined (phaser_state J s) j x v a d → Applies J.joined (phaser_state J s) j x v b e → (a ≡ b) × (d ≡ e)
  one_outcome (Send x) v a b d e h k = (h.2 ∙ sym k.2, both d e (h.1 ∙ sym k.1) (h.0.leaves ∙ sym k.0.leaves))
  one_outcome AskResult v a b d e h k = (h.2 ∙ sym k.2, h.1 ∙ sym k.1)
  one_outcome AskView v a b d e h k = (h.2 ∙ sym k.2, h.1 ∙ sym k.1)
  one_outcome _ v a b d e h k = (h.2 ∙ sym k.2, both d e (h.0.leaves ∙ sym k.0.leaves) (h.1 ∙ sym k.1))

  pub one_end : (x : Action V) (a b : Answer V) (t u : State V) → Accepted J s j x a t → Accepted J s j x b u → (a ≡ b) × (t ≡ u)
  one_end x a b t u d e =
      let views : e.view ≡ d.view = same_view _ _ (sym (member x e.view b e.next e.applies) ∙ member x d.view a d.next d.applies) in
      let same = one_outcome x d.view a b d.next e.next d.applies (subst (λ (v : View). Applies J.joined (phaser_state J s) j x v b e.next) views e.applies) in (
        same.0,
        same_state J t u e.next (subst (Shows J t) same.1 d.shows) e.shows
            (d.limits.table ∙ sym e.limits.table) (d.limits.limit ∙ sym e.limits.limit)
            (d.limits.first ∙ ap (λ (v : View). first_after s.account.first v x) (sym views) ∙ sym e.limits.first) (d.limits.window ∙ sym e.limits.window),
      )
