-- What an accepted call does: to each seat, to each total, to the first kept pass, and what it answers.
use Rattle.std.proofs.Common.{◌≢◌, ◌≡◌, ℕ, ◌+◌, ◌≤◌, Bool, true, false, cond, eqb, ◌⊎◌, [], ◌∷◌, Some, None, fold, Option, sym, refl, ap, ◌∙◌, subst, inl, inr, ⊎_elim, arith}
use Rattle.std.proofs.lemmas.Bool.{eqb-true, eqb-false, eq-eqb, ne_eqb, or_cases, or_parts, and_parts, false≢true}
use Rattle.joining.specs.declared.Joining.{Ghosts}
use Rattle.calls.specs.declared.Mode.{Mode}
use Rattle.calls.specs.declared.views.View.{View}
use Rattle.calls.specs.declared.actions.Action.{Action}
use Rattle.calls.specs.declared.actions.Action.TheVariants.{Register, Signal, Wait, Drop, Send, Result as AskResult, View as AskView}
use Rattle.calls.specs.declared.actions.Answer.{Answer}
use Rattle.calls.specs.declared.actions.Answer.TheVariants.{Total}
use Rattle.accumulator.specs.Meaning.{total_in}
use Rattle.phaser.specs.State.{State, seat}
use Rattle.accumulator.specs.declared.TheConstants.{LEAD}
use Rattle.phaser.specs.Rules.{view_after_signal, view_after_wait, newcomer_view, put, PhaserState, Registers}
use Rattle.phaser.specs.Limits.{is_sw, reaches, Accepted}
use Rattle.phaser.specs.Steps.{answer_of}
use Rattle.phaser.specs.Histories.{entrant, OfTotal, value_for}
use Rattle.phaser.proofs.Seats.{none_some, true_false, put_cases, shown_seat}
use Rattle.phaser.proofs.Levels.{LevelView, Good, wait_first}
use Rattle.phaser.proofs.Entries.{has}

-- what a station's own accepted call leaves of its seat
abbrev pub own : {V : Type 0} → View → Action V → Option View
own v Signal = Some (view_after_signal v)
own v Wait = Some (view_after_wait v)
own v Drop = None
own v _ = Some v

-- the view with which the call of a station with the view v brings in another
abbrev pub entry : {V : Type 0} → View → Action V → View
entry v (Register other r) = newcomer_view r v
entry v _ = v

-- the seats after an accepted call
pub record Seats {V : Type 0} (s : State V) (j : ℕ) (x : Action V) (v : View) (t : State V) : Type 0 where
  pub own_seat : seat t j ≡ own v x
  pub others : (k : ℕ) → (k ≢ j) → has k (entrant x) ≡ false → seat t k ≡ seat s k
  pub enters : (k : ℕ) → has k (entrant x) ≡ true → (seat t k ≡ Some (entry v x)) × (k ≢ j)

-- the first kept pass after an accepted call
pub record Firsts {V : Type 0} (s : State V) (x : Action V) (v : View) (t : State V) : Type 0 where
  pub up : s.account.first ≤ t.account.first
  pub moved : (t.account.first ≡ s.account.first) ⊎ ((x ≡ Wait) × (is_sw v.mode ≡ true) × (v.wp ≡ t.account.first))
  pub bound : x ≡ Wait → is_sw v.mode ≡ true → v.wp ≤ t.account.first

pub record Effect {V : Type 0} (J : Ghosts V) (s : State V) (j : ℕ) (x : Action V) (a : Answer V) (t : State V) : Type 0 where
  pub view : View
  pub member : seat s j ≡ Some view
  pub seats : Seats s j x view t
  pub firsts : Firsts s x view t
  pub sums : (pass : ℕ) → t.account.first ≤ pass → total_in J t.account pass ≡ fold J.joined (total_in J s.account pass) (value_for pass x a)
  pub says : (T : ℕ → V) → OfTotal (λ pass total. total ≡ T pass) a → a ≡ answer_of T view x

module _ {V : Type 0} (s : State V) (j : ℕ) where
  -- the call writes the caller's seat alone
  own_only : (x : Action V) (v : View) (t : State V) → entrant x ≡ [] → ((k : ℕ) → seat t k ≡ put (seat s) j (own v x) k) → Seats s j x v t
  own_only x v t none at = record {
    own_seat = at j ∙ ⊎_elim (λ c. c.1) (λ c. absurd (c.0 refl)) (put_cases (seat s) j (own v x) j);
    others = λ k ne f. at k ∙ ⊎_elim (λ c. absurd (ne c.0)) (λ c. c.1) (put_cases (seat s) j (own v x) k);
    enters = λ k f. absurd (true_false (has k []) (ap (has k) (sym none) ∙ f) refl);
  }

  -- the call writes no seat
  none_written : (x : Action V) (v : View) (t : State V) → seat s j ≡ Some v → entrant x ≡ [] → own v x ≡ Some v → ((k : ℕ) → seat t k ≡ seat s k) → Seats s j x v t
  none_written x v t h none o at = record {
    own_seat = at j ∙ h ∙ sym o;
    others = λ k ne f. at k;
    enters = λ k f. absurd (true_false (has k []) (ap (has k) (sym none) ∙ f) refl);
  }

  one : (k i : ℕ) → has i (k ∷ []) ≡ true → i ≡ k
  one k i e = ⊎_elim (λ t. sym (eqb-true k i t)) (λ t. absurd (false≢true t)) (or_cases (eqb k i) false e)

  registered : (other : ℕ) (r : Mode) (v : View) (Q : ℕ → Option View) (t : State V) → Registers (seat s) j other r v Q → ((k : ℕ) → seat t k ≡ put (seat s) other (Some (newcomer_view r v)) k) → Seats s j (Register other r) v t
  registered other r v Q t rule at =
      let o : Option View = Some (newcomer_view r v) in
      let apart : other ≢ j = λ q. none_some v (sym rule.absent ∙ ap (seat s) q ∙ rule.member) in
      record {
        own_seat = at j ∙ ⊎_elim (λ d. absurd (apart (sym d.0))) (λ d. d.1 ∙ rule.member) (put_cases (seat s) other o j);
        others = λ i ne f. at i ∙ ⊎_elim (λ d. absurd (eqb-false other i (or_parts (eqb other i) false f).0 (sym d.0))) (λ d. d.1) (put_cases (seat s) other o i);
        enters = λ i f.
            let q : i ≡ other = one other i f in
            (at i ∙ ⊎_elim (λ d. d.1) (λ d. absurd (d.0 q)) (put_cases (seat s) other o i), λ r. apart (sym q ∙ r));
      }

  -- the first kept pass stays
  no_wait : (x : Action V) (v : View) (t : State V) → t.account.first ≡ s.account.first → (x ≢ Wait) → Firsts s x v t
  no_wait x v t e ne = record { up = omega arith; moved = inl e; bound = λ q. absurd (ne q) }

  pub waited_first : (v : View) (l : ℕ) → LevelView l s.account.first v → (b : Bool) → reaches s.account.first v ≡ b → (t : State V) → t.account.first ≡ cond b (s.account.first + 1) s.account.first → Firsts s Wait v t
  waited_first v l h true e t q =
      let p = and_parts (is_sw v.mode) (eqb (v.wp + 1) (s.account.first + LEAD)) e in
      let n = eqb-true (v.wp + 1) (s.account.first + LEAD) p.1 in
      record { up = omega arith; moved = inr (refl, p.0, omega arith); bound = λ w m. omega arith }
  waited_first v l h false e t q =
      record { up = omega arith; moved = inl q; bound = λ w m. let k = wait_first v l s.account.first h false e m in omega arith }

module _ {V : Type 0} (J : Ghosts V) (l : ℕ) (s : State V) (g : Good l s) (j : ℕ) where
  -- the totals stay, where they are kept
  same_sums : (x : Action V) (a : Answer V) (t : State V) (d : Accepted J s j x a t) → d.next.totals ≡ total_in J s.account → (pass : ℕ) → t.account.first ≤ pass → total_in J t.account pass ≡ total_in J s.account pass
  same_sums x a t d e pass k = d.shows.totals pass k ∙ ap (λ (T : ℕ → V). T pass) e

  sent_sums : (x : V) (a : Answer V) (t : State V) (d : Accepted J s j (Send x) a t) → (pass : ℕ) → t.account.first ≤ pass → total_in J t.account pass ≡ fold J.joined (total_in J s.account pass) (value_for pass (Send x) a)
  sent_sums x a t d pass k =
      let n : ℕ = d.view.sp + 1 in
      let T : ℕ → V = total_in J s.account in
      let rule = d.applies.0 in
      let answer = d.applies.2 in
      let after : total_in J t.account pass ≡ put T n (J.joined (T n) x) pass = d.shows.totals pass k ∙ ap (λ (U : ℕ → V). U pass) rule.leaves in
      let sent : (b : Bool) → eqb n pass ≡ b → fold J.joined (T pass) (cond b (x ∷ []) []) ≡ fold J.joined (T pass) (value_for pass (Send x) a)
      = λ b e. ap (λ (q : Bool). fold J.joined (T pass) (cond q (x ∷ []) [])) (sym e) ∙ ap (λ (c : Answer V). fold J.joined (T pass) (value_for pass (Send x) c)) (sym answer) in
      ⊎_elim
      (λ c. after ∙ c.1 ∙ ap (λ (i : ℕ). J.joined (T i) x) (sym c.0) ∙ sent true (eq-eqb n pass (sym c.0)))
      (λ c. after ∙ c.1 ∙ sent false (ne_eqb n pass (λ e. c.0 (sym e))))
      (put_cases T n (J.joined (T n) x) pass)

  seats_at : (x : Action V) (a : Answer V) (t : State V) (d : Accepted J s j x a t) (P : ℕ → Option View) → d.next.phaser ≡ P → (k : ℕ) → seat t k ≡ P k
  seats_at x a t d P e = shown_seat J t d.next P d.shows e

  pub effect : (x : Action V) (a : Answer V) (t : State V) → Accepted J s j x a t → Effect J s j x a t
  effect (Register other r) a t d = record {
    view = d.view;
    member = d.applies.0.member;
    seats = registered s j other r d.view d.next.phaser t d.applies.0 (seats_at (Register other r) a t d _ d.applies.0.leaves);
    firsts = no_wait s j (Register other r) d.view t d.limits.first (λ q. let z : ◌≡◌ {A = ℕ} 0 1 = cc in omega arith);
    sums = same_sums (Register other r) a t d d.applies.1;
    says = λ T h. d.applies.2;
  }
  effect Wait a t d = record {
    view = d.view;
    member = d.applies.0.member;
    seats = own_only s j Wait d.view t refl (seats_at Wait a t d _ d.applies.0.leaves);
    firsts = waited_first s j d.view l (g.each j d.view d.applies.0.member) (reaches s.account.first d.view) refl t d.limits.first;
    sums = same_sums Wait a t d d.applies.1;
    says = λ T h. d.applies.2;
  }
  effect (Send x) a t d = record {
    view = d.view;
    member = d.applies.0.member;
    seats = none_written s j (Send x) d.view t d.applies.0.member refl refl (seats_at (Send x) a t d (seat s) d.applies.1);
    firsts = no_wait s j (Send x) d.view t d.limits.first (λ q. let z : ◌≡◌ {A = ℕ} 0 1 = cc in omega arith);
    sums = sent_sums x a t d;
    says = λ T h. d.applies.2;
  }
  effect AskResult a t d = record {
    view = d.view;
    member = d.applies.0.member;
    seats = none_written s j AskResult d.view t d.applies.0.member refl refl (seats_at AskResult a t d (seat s) (ap (λ (c : PhaserState V). c.phaser) d.applies.1));
    firsts = no_wait s j AskResult d.view t d.limits.first (λ q. let z : ◌≡◌ {A = ℕ} 0 1 = cc in omega arith);
    sums = same_sums AskResult a t d (ap (λ (c : PhaserState V). c.totals) d.applies.1);
    says = λ T h.
        let q : total_in J s.account d.view.wp ≡ T d.view.wp = subst (OfTotal (λ pass total. total ≡ T pass)) d.applies.2 h in
        d.applies.2 ∙ ap (Total d.view.wp) q;
  }
  effect AskView a t d = record {
    view = d.view;
    member = d.applies.0;
    seats = none_written s j AskView d.view t d.applies.0 refl refl (seats_at AskView a t d (seat s) (ap (λ (c : PhaserState V). c.phaser) d.applies.1));
    firsts = no_wait s j AskView d.view t d.limits.first (λ q. let z : ◌≡◌ {A = ℕ} 0 1 = cc in omega arith);
    sums = same_sums AskView a t d (ap (λ (c : PhaserState V). c.totals) d.applies.1);
    says = λ T h. d.applies.2;
  }
  effect x a t d = record {
    view = d.view;
    member = d.applies.0.member;
    seats = own_only s j x d.view t refl (seats_at x a t d _ d.applies.0.leaves);
    firsts = no_wait s j x d.view t d.limits.first (λ q. let z : ◌≡◌ {A = ℕ} 0 1 = cc in omega arith);
    sums = same_sums x a t d d.applies.1;
    says = λ T h. d.applies.2;
  }
