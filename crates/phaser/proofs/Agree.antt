-- A call is accepted just where its rule applies within the limits.
use Rattle.std.proofs.Common.{◌≡◌, ℕ, ◌+◌, ◌<◌, true, not, ltb, leb, [], ◌∷◌, is_some, Some, None, Ok, Err, Option, Result, sym, refl, ap, ◌∙◌, subst, arith}
use Rattle.std.proofs.ByRecursion.{All-append}
use Rattle.std.proofs.lemmas.List.{length-set}
use Rattle.std.proofs.lemmas.Bool.{leb-true, ltb-true, le-leb, lt-ltb, and_parts}
use Rattle.refusal.specs.declared.Refusal.{Refusal}
use Rattle.refusal.specs.declared.Refusal.TheVariants.{NotSigned}
use Rattle.refusal.specs.declared.limits.TheConstants.{STATIONS, LAST_PASS}
use Rattle.refusal.specs.Rules.{rule, Verdict, verdict, EveryRuleHolds}
use Rattle.refusal.proofs.Verdicts.{accepted, unbroken, every_parts}
use Rattle.joining.specs.declared.Joining.{Ghosts}
use Rattle.calls.specs.declared.views.View.{View}
use Rattle.calls.specs.declared.actions.Action.{Action}
use Rattle.calls.specs.declared.actions.Action.TheVariants.{Register, Signal, Wait, Drop, Send, Result as AskResult, View as AskView}
use Rattle.calls.specs.declared.actions.Answer.{Answer}
use Rattle.accumulator.specs.declared.TheConstants.{KEPT}
use Rattle.accumulator.specs.Meaning.{answer_by, total_in}
use Rattle.phaser.specs.State.{State, seat, SoundState}
use Rattle.phaser.specs.Rules.{put, view_after_signal, view_after_wait, newcomer_view, PhaserState, Applies}
use Rattle.phaser.specs.Limits.{is_sw, reaches, first_after, HasRoom, WithinLimits, phaser_state, Shows, Accepted}
use Rattle.phaser.specs.Steps.{view_of, all_signed, moving_rules, rules, answer_of, with_seat, state_by, state_of, step}
use Rattle.phaser.specs.Agreement.{Agrees, CountedState}
use Rattle.phaser.proofs.Seats.{sw_mode, get_or-put}
use Rattle.phaser.proofs.Turns.{present, vacant, sign_in_turn, may_sign, wait_in_turn, may_wait, admitted, may_admit, all_up, up_all, moves_within}
use Rattle.phaser.proofs.Outcomes.{member, one_end}
use Rattle.phaser.proofs.Shown.{moved, value_joined}

pub counted : {V : Type 0} (s : State V) → SoundState s → CountedState s
counted s sound = record { table = sound.seats.table; counts = λ k v e. (sound.seats.views k v e).counts; window = sound.window }

module _ {V : Type 0} (J : Ghosts V) (s : State V) (sound : CountedState s) (j : ℕ) where
  abbrev me : View
  me = view_of (seat s j)

  abbrev T : ℕ → V
  T = total_in J s.account

  abbrev answered : Action V → Answer V
  answered x = answer_of T me x

  abbrev left : Action V → State V
  left x = state_of J s j me x

  -- the limits of a call that writes one seat, and what it shows
  wrote : (x : Action V) (k : ℕ) (o : Option View) → j < STATIONS → HasRoom s j me x → first_after s.account.first me x ≡ s.account.first → WithinLimits s j x me (with_seat s k o)
  wrote x k o h f e = record { station = h; room = f; table = length-set s.members k o ∙ sound.table; limit = refl; first = sym e; window = sound.window }

  shows_put : (k : ℕ) (o : Option View) → k < STATIONS → Shows J (with_seat s k o) (record { phaser = put (seat s) k o; totals = T })
  shows_put k o h = record { seats = get_or-put s.members k o None (omega (arith, sound.table)); totals = λ p l. refl }

  stays : (x : Action V) → j < STATIONS → HasRoom s j me x → first_after s.account.first me x ≡ s.account.first → WithinLimits s j x me s
  stays x h f e = record { station = h; room = f; table = sound.table; limit = refl; first = sym e; window = sound.window }

  shows_same : Shows J s (phaser_state J s)
  shows_same = record { seats = λ k. refl; totals = λ p l. refl }

  pub to_rule : (x : Action V) → EveryRuleHolds (rules s j me x) → Accepted J s j x (answered x) (left x)
  to_rule (Register other r) c =
      let new : Option View = Some (newcomer_view r me) in
      let within = ltb-true other STATIONS c.1.0 in
      let may = admitted me.mode r c.1.1.1.1.0 in
      record {
        view = me;
        next = record { phaser = put (seat s) other new; totals = T };
        applies = (record { absent = vacant (seat s other) c.1.1.1.0; member = present (seat s j) c.1.1.0; waiter = may.0; signer = may.1; leaves = refl }, refl, refl);
        limits = wrote (Register other r) other new (ltb-true j STATIONS c.0) within refl;
        shows = shows_put other new within;
      }
  to_rule Signal c =
      let within = ltb-true j STATIONS c.0 in
      let here = present (seat s j) c.1.0 in
      record {
        view = me;
        next = record { phaser = put (seat s) j (Some (view_after_signal me)); totals = T };
        applies = (record { member = here; signer = c.1.1.0; turn = sign_in_turn me.mode me.sp me.wp (sound.counts j me here) c.1.1.1.0; leaves = refl }, refl, refl);
        limits = wrote Signal j (Some (view_after_signal me)) within (leb-true (me.sp + 1) LAST_PASS c.1.1.1.1.0) refl;
        shows = shows_put j (Some (view_after_signal me)) within;
      }
  to_rule Wait c =
      let within = ltb-true j STATIONS c.0 in
      let here = present (seat s j) c.1.0 in
      let o : Option View = Some (view_after_wait me) in
      let m = moved J s.account sound.window (reaches s.account.first me) in
      let signed_all = (every_parts (moving_rules s.account.first me) (rule (all_signed (me.wp + 1) s.members) (NotSigned j) ∷ []) c.1.1.1.1.1).1.0 in
      record {
        view = me;
        next = record { phaser = put (seat s) j o; totals = T };
        applies = (record { await = all_up (me.wp + 1) s.members signed_all; member = here; waiter = c.1.1.0; turn = wait_in_turn me.mode me.sp me.wp (sound.counts j me here) c.1.1.1.0; leaves = refl }, refl, refl);
        limits = record { station = within; room = leb-true (me.wp + 1) LAST_PASS c.1.1.1.1.0; table = length-set s.members j o ∙ sound.table; limit = m.limit; first = m.first; window = m.window };
        shows = record { seats = (shows_put j o within).seats; totals = m.totals };
      }
  to_rule Drop c =
      let within = ltb-true j STATIONS c.0 in
      record {
        view = me;
        next = record { phaser = put (seat s) j None; totals = T };
        applies = (record { member = present (seat s j) c.1.0; leaves = refl }, refl, refl);
        limits = wrote Drop j None within tt refl;
        shows = shows_put j None within;
      }
  to_rule (Send x) c =
      let here = present (seat s j) c.1.0 in
      let sw = sw_mode me.mode c.1.1.0 in
      let n : ℕ = me.sp + 1 in
      let is-kept = c.1.1.1.1.1.1.0 in
      let k = and_parts (leb s.account.first n) (ltb n (s.account.first + KEPT)) is-kept in
      record {
        view = me;
        next = record { phaser = seat s; totals = put T n (J.joined (T n) x) };
        applies = (record { member = here; sender = sw; turn = sign_in_turn me.mode me.sp me.wp (sound.counts j me here) c.1.1.1.0 sw; leaves = refl }, refl, refl);
        limits = record {
          station = ltb-true j STATIONS c.0;
          room = (leb-true n LAST_PASS c.1.1.1.1.0, ltb-true j s.account.limit c.1.1.1.1.1.0, is-kept);
          table = sound.table;
          limit = refl;
          first = refl;
          window = length-set _ _ _ ∙ sound.window;
        };
        shows = record {
          seats = λ i. refl;
          totals = value_joined J s.account n x sound.window (leb-true s.account.first n k.0) (ltb-true n (s.account.first + KEPT) k.1);
        };
      }
  to_rule AskResult c = record {
    view = me;
    next = phaser_state J s;
    applies = (record { member = present (seat s j) c.1.0; reader = sw_mode me.mode c.1.1.0; some = ltb-true 0 me.wp c.1.1.1.0 }, refl, refl);
    limits = stays AskResult (ltb-true j STATIONS c.0) c.1.1.1.1.0 refl;
    shows = shows_same;
  }
  to_rule AskView c = record {
    view = me;
    next = phaser_state J s;
    applies = (present (seat s j) c.1.0, refl, refl);
    limits = stays AskView (ltb-true j STATIONS c.0) tt refl;
    shows = shows_same;
  }

  -- ---- and back

  from_rule : (x : Action V) (v : View) (a : Answer V) (d : PhaserState V) → Applies J.joined (phaser_state J s) j x v a d → j < STATIONS → HasRoom s j v x → EveryRuleHolds (rules s j v x)
  from_rule (Register other r) v a d h i f =
      let p = h.0 in
      (lt-ltb j STATIONS i, (lt-ltb other STATIONS f, (ap is_some p.member, (ap (λ (o : Option View). not (is_some o)) p.absent, (may_admit v.mode r p.waiter p.signer, tt)))))
  from_rule Signal v a d h i f =
      let p = h.0 in
      (lt-ltb j STATIONS i, (ap is_some p.member, (p.signer, (may_sign v.mode v.sp v.wp p.turn, (le-leb (v.sp + 1) LAST_PASS f, tt)))))
  from_rule Wait v a d h i f =
      let p = h.0 in (
        lt-ltb j STATIONS i,
        (
          ap is_some p.member,
          (
            p.waiter,
            (
              may_wait v.mode v.sp v.wp p.turn,
              (
                le-leb (v.wp + 1) LAST_PASS f,
                All-append (λ r. r.holds ≡ true) (moving_rules s.account.first v) (rule (all_signed (v.wp + 1) s.members) (NotSigned j) ∷ []) (moves_within s.account.first v f (reaches s.account.first v) refl) (up_all (v.wp + 1) s.members p.await, tt),
              ),
            ),
          ),
        ),
      )
  from_rule Drop v a d h i f = (lt-ltb j STATIONS i, (ap is_some h.0.member, (refl, tt)))
  from_rule (Send x) v a d h i f =
      let p = h.0 in (
        lt-ltb j STATIONS i,
        (
          ap is_some p.member,
          (
            ap is_sw p.sender,
            (
              may_sign v.mode v.sp v.wp (λ e. p.turn),
              (
                le-leb (v.sp + 1) LAST_PASS f.0,
                (lt-ltb j s.account.limit f.1, (f.2, tt)),
              ),
            ),
          ),
        ),
      )
  from_rule AskResult v a d h i f =
      let p = h.0 in
      (lt-ltb j STATIONS i, (ap is_some p.member, (ap is_sw p.reader, (lt-ltb 0 v.wp p.some, (f, tt)))))
  from_rule AskView v a d h i f = (lt-ltb j STATIONS i, (ap is_some h.0, (refl, tt)))

  -- ---- the steps

  -- a step that answers came by no refusal
  ok_of : (w : Verdict) (b : Answer V) (u : State V) (a : Answer V) (t : State V) → ◌≡◌ {A = Result (Answer V) Refusal × State V} (answer_by w b, state_by w u s) (Ok a, t) → (w ≡ Ok tt) × (b ≡ a) × (u ≡ t)
  ok_of (Ok w) b u a t e =
      let r : Ok b ≡ Ok a = ap (λ (z : Result (Answer V) Refusal × State V). z.0) e in
      (refl, (let q : b ≡ a = cc in q), ap (λ (z : Result (Answer V) Refusal × State V). z.1) e)
  ok_of (Err w) b u a t e =
      let q : Err w ≡ Ok a = ap (λ (z : Result (Answer V) Refusal × State V). z.0) e in
      let z : ◌≡◌ {A = ℕ} 0 1 = cc in absurd (omega arith)

  err_of : (w : Verdict) (b : Answer V) (u : State V) (r : Refusal) (t : State V) → ◌≡◌ {A = Result (Answer V) Refusal × State V} (answer_by w b, state_by w u s) (Err r, t) → t ≡ s
  err_of (Ok w) b u r t e =
      let q : Ok b ≡ Err r = ap (λ (z : Result (Answer V) Refusal × State V). z.0) e in
      let z : ◌≡◌ {A = ℕ} 0 1 = cc in absurd (omega arith)
  err_of (Err w) b u r t e = sym (ap (λ (z : Result (Answer V) Refusal × State V). z.1) e)

  refused_step : (x : Action V) (r : Refusal) (t : State V) → step J s j x ≡ (Err r, t) → t ≡ s
  refused_step x r t e = err_of (verdict (rules s j me x)) (answered x) (left x) r t e

  pub accepts : (x : Action V) (a : Answer V) (t : State V) → step J s j x ≡ (Ok a, t) → Accepted J s j x a t
  accepts x a t e =
      let q = ok_of (verdict (rules s j me x)) (answered x) (left x) a t e in
      subst (λ (u : State V). Accepted J s j x a u) q.2
      (subst (λ (b : Answer V). Accepted J s j x b (left x)) q.1 (to_rule x (unbroken (rules s j me x) q.0)))

  accepted_step : (x : Action V) (a : Answer V) (t : State V) → Accepted J s j x a t → step J s j x ≡ (Ok a, t)
  accepted_step x a t d =
      let here = member J s j x d.view a d.next d.applies in
      let is-me : d.view ≡ me = ap view_of (sym here) in
      let holds = subst (λ (v : View). EveryRuleHolds (rules s j v x)) is-me (from_rule x d.view a d.next d.applies d.limits.station d.limits.room) in
      let same = one_end J s j x a (answered x) t (left x) d (to_rule x holds) in
      ap (λ (w : Verdict). (answer_by w (answered x), state_by w (left x) s)) (accepted (rules s j me x) holds)
      ∙ (λ i. (Ok (sym same.0 i), sym same.1 i))

pub rules_agree_lem : {V : Type 0} (J : Ghosts V) (s : State V) → CountedState s → (j : ℕ) (x : Action V) → Agrees J s j x
rules_agree_lem J s sound j x = record {
  by_rule = accepts J s sound j x;
  by_step = accepted_step J s sound j x;
  refused = refused_step J s sound j x;
}
