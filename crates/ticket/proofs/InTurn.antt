-- A call that stands on a ticket that tells the truth is made by a member in its turn.
use Rattle.std.proofs.Common.{◌≡◌, ℕ, ◌+◌, Bool, true, false, cond, eqb, ◌⊎◌, List, [], ◌∷◌, ◌++◌, is_some, Err, ◌≢◌, sym, refl, ◌∙◌, inl, inr, ⊎_elim, arith}
use Rattle.std.proofs.lemmas.Bool.{and_parts, eqb-false, false≢true}
use Rattle.refusal.specs.declared.Refusal.{Refusal}
use Rattle.refusal.specs.declared.Refusal.TheVariants.{NotSigned}
use Rattle.refusal.specs.Refusals.{number}
use Rattle.refusal.specs.Rules.{Rule, rule, verdict}
use Rattle.std.specs.List.{AllByRecursion}
use Rattle.accumulator.specs.Window.{move_on_rules}
use Rattle.calls.specs.declared.Mode.TheVariants.{SignalWait}
use Rattle.calls.specs.declared.Verb.{Verb}
use Rattle.calls.specs.declared.Verb.TheVariants as verb
use Rattle.calls.specs.declared.views.View.{View}
use Rattle.calls.specs.declared.actions.Action.{Action}
use Rattle.calls.specs.declared.actions.Action.TheVariants.{Register, Signal, Wait, Drop, Send, Result as AskResult, View as AskView}
use Rattle.calls.specs.Calls.{verb_in}
use Rattle.calls.specs.Tables.{allowed}
use Rattle.phaser.specs.State.{State, seat}
use Rattle.phaser.specs.Limits.{reaches}
use Rattle.phaser.specs.Steps.{sign_turn, wait_turn, all_signed, rules}
use Rattle.phaser.proofs.Fine.{Fine, fine_verdict}
use Rattle.phaser.proofs.Seats.{true_false}
use Rattle.phaser.proofs.Turns.{may_sign, may_wait}
use Rattle.ticket_kinds.specs.declared.Kind.{Kind}
use Rattle.ticket_kinds.specs.declared.Kind.TheVariants.{Open, Signed, SignOnly, WaitOnly}
use Rattle.ticket_kinds.specs.Kinds.{mode_of, Tells, has_turn, offers}
use Rattle.ticket.specs.Truth.{MayCome}

turn_from : (kind : Kind) (v : Verb) → offers kind v ≡ true → has_turn kind v ≡ true
turn_from kind v e = (and_parts (allowed v (mode_of kind)) (has_turn kind v) e).1

-- an SW that signs or sends has observed all that it signed, one that waits all but one
sign_turn_kept : (kind : Kind) (v : View) → has_turn kind verb.Signal ≡ true → Tells kind v → v.mode ≡ SignalWait → v.sp ≡ v.wp
sign_turn_kept Open v e t m = t.turn
sign_turn_kept Signed v e t m = absurd (false≢true e)
sign_turn_kept SignOnly v e t m = let q = sym t.mode ∙ m in let z : ◌≡◌ {A = ℕ} 0 1 = cc in omega arith
sign_turn_kept WaitOnly v e t m = let q = sym t.mode ∙ m in let z : ◌≡◌ {A = ℕ} 0 1 = cc in omega arith

wait_turn_kept : (kind : Kind) (v : View) → has_turn kind verb.Wait ≡ true → Tells kind v → v.mode ≡ SignalWait → v.sp ≡ v.wp + 1
wait_turn_kept Open v e t m = absurd (false≢true e)
wait_turn_kept Signed v e t m = t.turn
wait_turn_kept SignOnly v e t m = let q = sym t.mode ∙ m in let z : ◌≡◌ {A = ℕ} 0 1 = cc in omega arith
wait_turn_kept WaitOnly v e t m = let q = sym t.mode ∙ m in let z : ◌≡◌ {A = ℕ} 0 1 = cc in omega arith

send_signs : (kind : Kind) → has_turn kind verb.Send ≡ has_turn kind verb.Signal
send_signs Open = refl
send_signs Signed = refl
send_signs SignOnly = refl
send_signs WaitOnly = refl

-- rules of which each holds or has a refusal of another number than n
abbrev Spared : ℕ → List Rule → Type 0
Spared n rs = AllByRecursion (λ r. (eqb (number r.otherwise) n ≡ false) ⊎ (r.holds ≡ true)) rs

spared_fine : (n : ℕ) (rs : List Rule) → Spared n rs → Fine (λ r. number r ≢ n) rs
spared_fine n [] a = tt
spared_fine n (r ∷ rs) a = (λ broken. ⊎_elim (eqb-false (number r.otherwise) n) (λ h. absurd (true_false r.holds h broken)) a.0, λ e. spared_fine n rs a.1)

spared_verdict : (n : ℕ) (rs : List Rule) → Spared n rs → (r : Refusal) → verdict rs ≡ Err r → number r ≢ n
spared_verdict n rs a = fine_verdict (λ r. number r ≢ n) rs (spared_fine n rs a)

-- a move on is refused by 14
moving_spared : (n first : ℕ) (b : Bool) (rest : List Rule) → eqb 14 n ≡ false → Spared n rest → Spared n (cond b (move_on_rules first) [] ++ rest)
moving_spared n first true rest e a = (inl e, a)
moving_spared n first false rest e a = a

module _ {V : Type 0} (s : State V) (j : ℕ) (kind : Kind) (v : View) (tells : Tells kind v) where
  signs_in_turn : has_turn kind verb.Signal ≡ true → (sign_turn j v).holds ≡ true
  signs_in_turn e = may_sign v.mode v.sp v.wp (sign_turn_kept kind v e tells)

  waits_in_turn : has_turn kind verb.Wait ≡ true → (wait_turn j v).holds ≡ true
  waits_in_turn e = may_wait v.mode v.sp v.wp (wait_turn_kept kind v e tells)

  turns : (x : Action V) → has_turn kind (verb_in x) ≡ true → Spared 13 (rules s j v x)
  turns (Register o r) e = (inl refl, (inl refl, (inl refl, (inl refl, (inl refl, tt)))))
  turns Signal e = (inl refl, (inl refl, (inl refl, (inr (signs_in_turn e), (inl refl, tt)))))
  turns Wait e = (
    inl refl,
    (inl refl, (inl refl, (inr (waits_in_turn e), (inl refl, moving_spared 13 s.account.first (reaches s.account.first v) (rule (all_signed (v.wp + 1) s.members) (NotSigned j) ∷ []) refl (inl refl, tt))))),
  )
  turns Drop e = (inl refl, (inl refl, (inl refl, tt)))
  turns (Send x) e = (inl refl, (inl refl, (inl refl, (inr (signs_in_turn (sym (send_signs kind) ∙ e)), (inl refl, (inl refl, (inl refl, tt)))))))
  turns AskResult e = (inl refl, (inl refl, (inl refl, (inl refl, (inl refl, tt)))))
  turns AskView e = (inl refl, (inl refl, (inl refl, tt)))

  members : (x : Action V) → is_some (seat s j) ≡ true → Spared 10 (rules s j v x)
  members (Register o r) e = (inl refl, (inl refl, (inr e, (inl refl, (inl refl, tt)))))
  members Signal e = (inl refl, (inr e, (inl refl, (inl refl, (inl refl, tt)))))
  members Wait e = (
    inl refl,
    (inr e, (inl refl, (inl refl, (inl refl, moving_spared 10 s.account.first (reaches s.account.first v) (rule (all_signed (v.wp + 1) s.members) (NotSigned j) ∷ []) refl (inl refl, tt))))),
  )
  members Drop e = (inl refl, (inr e, (inl refl, tt)))
  members (Send x) e = (inl refl, (inr e, (inl refl, (inl refl, (inl refl, (inl refl, (inl refl, tt)))))))
  members AskResult e = (inl refl, (inr e, (inl refl, (inl refl, (inl refl, tt)))))
  members AskView e = (inl refl, (inr e, (inl refl, tt)))

  -- what refuses a call that stands on the ticket
  pub may_come : is_some (seat s j) ≡ true → (x : Action V) → offers kind (verb_in x) ≡ true → (r : Refusal) → verdict (rules s j v x) ≡ Err r → MayCome r
  may_come here x e r broken = record {
    member = spared_verdict 10 (rules s j v x) (members x here) r broken;
    turn = spared_verdict 13 (rules s j v x) (turns x (turn_from kind (verb_in x) e)) r broken;
  }
