-- Every total handed out joins all values accepted for its pass in the whole history.
use Rattle.std.proofs.Common.{◌≡◌, ℕ, ◌+◌, ◌-◌, ◌≤◌, Bool, cond, List, [], ◌∷◌, ◌++◌, replicate, fold, sym, refl, ap, ◌∙◌, subst, ⊎_elim, arith}
use Rattle.std.proofs.lemmas.List.{append-nil, append_assoc, get_or-replicate, get_or_past, length-replicate}
use Rattle.std.proofs.lemmas.Bool.{ne_eqb, cases_lt, and_parts, leb-true}
use Rattle.joining.specs.declared.Joining.{Ghosts}
use Rattle.calls.specs.declared.Mode.{Mode}
use Rattle.calls.specs.declared.actions.Action.{Action}
use Rattle.calls.specs.declared.actions.Action.TheVariants.{Send, Result as AskResult}
use Rattle.calls.specs.declared.actions.Answer.{Answer}
use Rattle.joining.specs.Lists.{joining_of}
use Rattle.accumulator.specs.declared.TheConstants.{KEPT}
use Rattle.accumulator.specs.Meaning.{Meaning, total_in, neutral_totals, new_meaning}
use Rattle.phaser.specs.State.{State}
use Rattle.phaser.specs.Limits.{is_sw, Accepted}
use Rattle.phaser.specs.Histories.{AcceptedCall, values_for, value_for, OfTotal, EachTotal}
use Rattle.phaser.specs.Law.{Complete}
use Rattle.phaser.proofs.Levels.{Good, step_good, made_good, sw_bounds}
use Rattle.phaser.proofs.Effects.{effect}
use Rattle.phaser.proofs.Runs.{Run, Recorded}

pub folded_append : {V : Type 0} (op : V → V → V) (a : V) (xs ys : List V) → fold op a (xs ++ ys) ≡ fold op (fold op a xs) ys
folded_append op a [] ys = refl
folded_append op a (x ∷ xs) ys = folded_append op (op a x) xs ys

module _ {V : Type 0} (J : Ghosts V) where
  -- the kept totals join what was sent so far
  abbrev pub Sums : (ℕ → List V) → Meaning V → Type 0
  Sums sofar m = (p : ℕ) → m.first ≤ p → total_in J m p ≡ joining_of J (sofar p)

  abbrev pub and_then : (ℕ → List V) → Action V → Answer V → ℕ → List V
  and_then sofar x a n = sofar n ++ value_for n x a

  pub step_sums : (l : ℕ) (s : State V) → Good l s → (sofar : ℕ → List V) → Sums sofar s.account → (j : ℕ) (x : Action V) (a : Answer V) (t : State V) → Accepted J s j x a t → Sums (and_then sofar x a) t.account
  step_sums l s g sofar h j x a t d p k =
      let e = effect J l s g j x a t d in
      let up = e.firsts.up in
      e.sums p k ∙ ap (λ (y : V). fold J.joined y (value_for p x a)) (h p (omega arith)) ∙ sym (folded_append J.joined J.neutral (sofar p) (value_for p x a))

  -- a pass that is not above the level gets no further value
  brings_none : (l : ℕ) (s : State V) → Good l s → (n : ℕ) → n ≤ l → (j : ℕ) (x : Action V) (a : Answer V) (t : State V) → Accepted J s j x a t → value_for n x a ≡ []
  brings_none l s g n h j (Send x) a t d =
      let v = d.view in
      let rule = d.applies.0 in
      let b = sw_bounds v.mode v.sp v.wp l s.account.first (ap is_sw rule.sender) (g.each j v rule.member) in
      ap (value_for n (Send x)) d.applies.2 ∙ ap (λ (q : Bool). cond q (x ∷ []) []) (ne_eqb (v.sp + 1) n (λ e. omega arith))
  brings_none l s g n h j _ a t d = refl

  none_later : (l : ℕ) (s : State V) (h : List (AcceptedCall V)) (t : State V) → Good l s → Run J s h t → (n : ℕ) → n ≤ l → values_for n h ≡ []
  none_later l s [] t g r n b = refl
  none_later l s ((c, a) ∷ h) t g r n b =
      let up = step_good J l s g c.caller c.action a r.0 r.1 in
      let k = up.up in
      ap (λ (ys : List V). ys ++ values_for n h) (brings_none l s g n b c.caller c.action a r.0 r.1) ∙ none_later up.level r.0 h t up.good r.2 n (omega arith)

  -- what one accepted call hands out is complete
  handed_whole : (l : ℕ) (s : State V) → Good l s → (sofar : ℕ → List V) → Sums sofar s.account → (whole : ℕ → List V) → ((n : ℕ) → n ≤ l → whole n ≡ sofar n) → (j : ℕ) (x : Action V) (a : Answer V) (t : State V) → Accepted J s j x a t → OfTotal (λ n y. y ≡ joining_of J (whole n)) a
  handed_whole l s g sofar h whole w j AskResult a t d =
      let v = d.view in
      let rule = d.applies.0 in
      let b = sw_bounds v.mode v.sp v.wp l s.account.first (ap is_sw rule.reader) (g.each j v rule.member) in
      let low = leb-true s.account.first v.wp (and_parts _ _ d.limits.room).0 in
      subst (OfTotal (λ n y. y ≡ joining_of J (whole n))) (sym d.applies.2)
      (h v.wp low ∙ ap (joining_of J) (sym (w v.wp b.3)))
  handed_whole l s g sofar h whole w j _ a t d = subst (OfTotal _) (sym d.applies.2) tt

  complete : (l : ℕ) (s : State V) (h : List (AcceptedCall V)) (t : State V) → Good l s → (sofar : ℕ → List V) → Sums sofar s.account → Run J s h t → (whole : ℕ → List V) → ((n : ℕ) → whole n ≡ sofar n ++ values_for n h) → EachTotal (λ n x. x ≡ joining_of J (whole n)) h
  complete l s [] t g sofar sums r whole w = tt
  complete l s ((c, a) ∷ h) t g sofar sums r whole w =
      let up = step_good J l s g c.caller c.action a r.0 r.1 in (
        handed_whole l s g sofar sums whole (λ n b. w n ∙ ap (λ (ys : List V). sofar n ++ ys) (none_later l s ((c, a) ∷ h) t g r n b) ∙ append-nil (sofar n)) c.caller c.action a r.0 r.1,
        complete up.level r.0 h t up.good (and_then sofar c.action a) (step_sums l s g sofar sums c.caller c.action a r.0 r.1) r.2 whole
            (λ n. w n ∙ sym (append_assoc (sofar n) (value_for n c.action a) (values_for n h))),
      )

  pub made_sums : (limit : ℕ) → Sums (λ n. []) (new_meaning J limit)
  unfolding neutral_totals
  made_sums limit p k =
      ⊎_elim
      (λ h. get_or-replicate KEPT (p - 0) J.neutral J.neutral h)
      (λ h. get_or_past (replicate KEPT J.neutral) (p - 0) J.neutral (omega (arith, length-replicate KEPT J.neutral)))
      (cases_lt (p - 0) KEPT)

  pub totals_complete : (j : ℕ) (mode : Mode) (limit : ℕ) (h : List (AcceptedCall V)) (t : State V) → Recorded J j mode limit h t → Complete J h
  totals_complete j mode limit h t rec =
      complete 0 _ h t (made_good J j mode limit rec.maker) (λ n. []) (made_sums limit) rec.run (λ n. values_for n h) (λ n. refl)
