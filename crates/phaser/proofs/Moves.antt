-- When the board moves its accumulator on.
use Rattle.std.proofs.Common.{◌≡◌, ◌≢◌, ℕ, ◌+◌, ◌-◌, ◌≤◌, max, true, List, [], ◌∷◌, ◌++◌, fold, Some, None, Option, sym, refl, ap, ◌∙◌, subst, ⊎_elim, arith}
use Rattle.std.proofs.lemmas.Bool.{false≢true}
use Rattle.refusal.specs.declared.limits.TheConstants.{STATIONS}
use Rattle.joining.specs.declared.Joining.{Ghosts}
use Rattle.calls.specs.declared.Mode.{Mode}
use Rattle.calls.specs.declared.Mode.TheVariants.{SignalWait, SignalOnly, WaitOnly}
use Rattle.calls.specs.declared.views.View.{View}
use Rattle.calls.specs.declared.actions.Action.{Action}
use Rattle.calls.specs.declared.actions.Action.TheVariants.{Register, Signal, Wait, Drop, Send, Result as AskResult, View as AskView}
use Rattle.calls.specs.declared.actions.Answer.{Answer}
use Rattle.calls.specs.declared.actions.Answer.TheVariants.{Observed}
use Rattle.phaser.specs.State.{State, seat, new_state, first_view}
use Rattle.phaser.specs.Rules.{put, view_after_signal, view_after_wait, newcomer_view, PhaserState}
use Rattle.phaser.specs.Limits.{is_sw, reaches, Accepted}
use Rattle.phaser.specs.Steps.{view_of}
use Rattle.phaser.specs.Histories.{AcceptedCall, modes_after, sw_pass, sw_passes}
use Rattle.phaser.proofs.Seats.{none_some, of_some, shown_seat, put_cases, made_seat}
use Rattle.phaser.proofs.Levels.{Good, step_good, made_good}
use Rattle.phaser.proofs.Complete.{folded_append}
use Rattle.phaser.proofs.Effects.{Firsts, waited_first}
use Rattle.phaser.proofs.Runs.{Run, Recorded}

-- each member has the mode in which its station entered last
abbrev AsEntered : {V : Type 0} → (ℕ → Mode) → State V → Type 0
AsEntered modes s = (k : ℕ) (v : View) → seat s k ≡ Some v → v.mode ≡ modes k

module _ {V : Type 0} (J : Ghosts V) (l : ℕ) (s : State V) (g : Good l s) (modes : ℕ → Mode) (held : AsEntered modes s) (j : ℕ) where
  -- one seat is written
  written : (t : State V) (k : ℕ) (o : Option View) (after : ℕ → Mode) → ((i : ℕ) → seat t i ≡ put (seat s) k o i) → ((v : View) → o ≡ Some v → v.mode ≡ after k) → ((i : ℕ) → i ≢ k → modes i ≡ after i) → AsEntered after t
  written t k o after at new old i v e =
      ⊎_elim
      (λ c. new v (sym c.1 ∙ sym (at i) ∙ e) ∙ ap after (sym c.0))
      (λ c. held i v (sym c.1 ∙ sym (at i) ∙ e) ∙ old i c.0)
      (put_cases (seat s) k o i)

  same_mode : (v w : View) → seat s j ≡ Some v → w.mode ≡ v.mode → (u : View) → Some w ≡ Some u → u.mode ≡ modes j
  same_mode v w member e u q = of_some (λ (x : View). x.mode ≡ modes j) w u q (e ∙ held j v member)

  unwritten : (t : State V) → ((i : ℕ) → seat t i ≡ seat s i) → AsEntered modes t
  unwritten t at i v e = held i v (sym (at i) ∙ e)

  still : (x : Action V) (a : Answer V) (t : State V) → Accepted J s j x a t → AsEntered (modes_after modes x) t
  still (Register other r) a t d =
      written t other (Some (newcomer_view r d.view)) (put modes other r) (shown_seat J t d.next _ d.shows d.applies.0.leaves)
      (λ v e. of_some (λ (x : View). x.mode ≡ put modes other r other) (newcomer_view r d.view) v e (⊎_elim (λ c. sym c.1) (λ c. absurd (c.0 refl)) (put_cases modes other r other)))
      (λ i ne. ⊎_elim (λ c. absurd (ne c.0)) (λ c. sym c.1) (put_cases modes other r i))
  still Signal a t d = written t j (Some (view_after_signal d.view)) modes (shown_seat J t d.next _ d.shows d.applies.0.leaves) (same_mode d.view (view_after_signal d.view) d.applies.0.member refl) (λ i ne. refl)
  still Wait a t d = written t j (Some (view_after_wait d.view)) modes (shown_seat J t d.next _ d.shows d.applies.0.leaves) (same_mode d.view (view_after_wait d.view) d.applies.0.member refl) (λ i ne. refl)
  still Drop a t d = written t j None modes (shown_seat J t d.next _ d.shows d.applies.0.leaves) (λ v e. absurd (none_some v e)) (λ i ne. refl)
  still (Send x) a t d = unwritten t (shown_seat J t d.next (seat s) d.shows d.applies.1)
  still AskResult a t d = unwritten t (shown_seat J t d.next (seat s) d.shows (ap (λ (c : PhaserState V). c.phaser) d.applies.1))
  still AskView a t d = unwritten t (shown_seat J t d.next (seat s) d.shows (ap (λ (c : PhaserState V). c.phaser) d.applies.1))

  -- an SW wait that answers v.wp + 1, and any other
  wait_moves : (t : State V) (v : View) (n : ℕ) (m : Mode) → v.mode ≡ m → s.account.first ≡ n - 1 → Firsts s Wait v t → t.account.first ≡ fold max n (sw_pass {V = V} (Observed (v.wp + 1)) m) - 1
  wait_moves t v n SignalWait e before f =
      let low = f.bound refl (ap is_sw e) in
      let up = f.up in
      ⊎_elim (λ same. omega arith) (λ c. let reached = c.2 in omega arith) f.moved
  wait_moves t v n SignalOnly e before f = ⊎_elim (λ same. same ∙ before) (λ c. absurd (false≢true (sym (ap is_sw e) ∙ c.1))) f.moved
  wait_moves t v n WaitOnly e before f = ⊎_elim (λ same. same ∙ before) (λ c. absurd (false≢true (sym (ap is_sw e) ∙ c.1))) f.moved

  moved_by : (x : Action V) (a : Answer V) (t : State V) (n : ℕ) → s.account.first ≡ n - 1 → Accepted J s j x a t → t.account.first ≡ fold max n (sw_pass a (modes j)) - 1
  moved_by (Register other r) a t n before d = d.limits.first ∙ before ∙ ap (λ (b : Answer V). fold max n (sw_pass b (modes j)) - 1) (sym d.applies.2)
  moved_by Signal a t n before d = d.limits.first ∙ before ∙ ap (λ (b : Answer V). fold max n (sw_pass b (modes j)) - 1) (sym d.applies.2)
  moved_by Wait a t n before d =
      wait_moves t d.view n (modes j) (held j d.view d.applies.0.member) before (waited_first s j d.view l (g.each j d.view d.applies.0.member) (reaches s.account.first d.view) refl t d.limits.first)
      ∙ ap (λ (b : Answer V). fold max n (sw_pass b (modes j)) - 1) (sym d.applies.2)
  moved_by Drop a t n before d = d.limits.first ∙ before ∙ ap (λ (b : Answer V). fold max n (sw_pass b (modes j)) - 1) (sym d.applies.2)
  moved_by (Send x) a t n before d = d.limits.first ∙ before ∙ ap (λ (b : Answer V). fold max n (sw_pass b (modes j)) - 1) (sym d.applies.2)
  moved_by AskResult a t n before d = d.limits.first ∙ before ∙ ap (λ (b : Answer V). fold max n (sw_pass b (modes j)) - 1) (sym d.applies.2)
  moved_by AskView a t n before d = d.limits.first ∙ before ∙ ap (λ (b : Answer V). fold max n (sw_pass b (modes j)) - 1) (sym d.applies.2)

run_moves : {V : Type 0} (J : Ghosts V) (l : ℕ) (s : State V) (h : List (AcceptedCall V)) (t : State V) → Good l s → (modes : ℕ → Mode) → AsEntered modes s → (n : ℕ) → s.account.first ≡ n - 1 → Run J s h t →
    t.account.first ≡ fold max n (sw_passes modes h) - 1
run_moves J l s [] t g modes held n before r = ap (λ (u : State _). u.account.first) (sym r) ∙ before
run_moves J l s ((c, a) ∷ h) t g modes held n before r =
    let up = step_good J l s g c.caller c.action a r.0 r.1 in
    let own : List ℕ = sw_pass a (modes c.caller) in
    run_moves J up.level r.0 h t up.good (modes_after modes c.action) (still J l s g modes held c.caller c.action a r.0 r.1) (fold max n own) (moved_by J l s g modes held c.caller c.action a r.0 n before r.1) r.2
    ∙ ap (λ m. m - 1) (sym (folded_append max n own (sw_passes (modes_after modes c.action) h)))

pub moves_on : {V : Type 0} (J : Ghosts V) (j : ℕ) (mode : Mode) (limit : ℕ) (h : List (AcceptedCall V)) (t : State V) → Recorded J j mode limit h t →
    t.account.first ≡ fold max 0 (sw_passes (λ k. (view_of (seat (new_state J j mode limit) k)).mode) h) - 1
moves_on J j mode limit h t rec =
    run_moves J 0 (new_state J j mode limit) h t (made_good J j mode limit rec.maker) (λ k. (view_of (seat (new_state J j mode limit) k)).mode) (λ k v e. ap (λ (o : Option View). (view_of o).mode) (sym e)) 0 refl rec.run
