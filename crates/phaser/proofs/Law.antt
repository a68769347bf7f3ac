-- Every list of calls on a board just made is recorded lawfully, and what is called later goes on its record.
use Rattle.std.proofs.Common.{◌≡◌, ℕ, ◌<◌, List, [], ◌∷◌, Ok, Err, refl, ap, map, zip, ◌++◌, sym, subst₂, ◌∙◌}
use Rattle.refusal.specs.declared.Refusal.{Refusal}
use Rattle.refusal.specs.declared.limits.TheConstants.{STATIONS}
use Rattle.refusal.specs.Rules.{Verdict, verdict}
use Rattle.refusal.proofs.Traces.{trace_append}
use Rattle.joining.specs.Laws.{CommutativeMonoid}
use Rattle.calls.specs.declared.Mode.{Mode}
use Rattle.calls.specs.declared.views.View.{View}
use Rattle.calls.specs.declared.actions.Call.{Call}
use Rattle.calls.specs.declared.actions.Answer.{Answer}
use Rattle.accumulator.specs.Meaning.{answer_by, total_in}
use Rattle.phaser.specs.State.{State, seat, new_state, SoundState}
use Rattle.phaser.specs.Limits.{Accepted}
use Rattle.phaser.specs.Steps.{view_of, rules, answer_of, state_of, state_by}
use Rattle.phaser.specs.Histories.{accepted_calls, refusals, history, final_state, Event, call_step}
use Rattle.phaser.specs.Law.{Expected, LawOfTheRecord, RecordOf, RecordsGoOn, OrderFree, RecordsAlike}
use Rattle.phaser.specs.Accounts.{AccountsOrderFree}
use Rattle.phaser.proofs.Levels.{Good, good_sound, step_good, made_good}
use Rattle.phaser.proofs.Runs.{Run, Recorded}
use Rattle.phaser.proofs.Readings.{reads_in_order, reads_causal}
use Rattle.phaser.proofs.Complete.{totals_complete}
use Rattle.phaser.proofs.OrderFree.{shares, order_free}
use Rattle.phaser.proofs.Ends.{ended}
use Rattle.phaser.proofs.Shares.{same_account}
use Rattle.phaser.proofs.Agree.{counted, accepts, rules_agree_lem}
use Rattle.phaser.proofs.Moves.{moves_on}
use Rattle.phaser.proofs.Fine.{fine_verdict}
use Rattle.phaser.proofs.Refusals.{fine}
use Rattle.std.specs.List.{AllByRecursion}
use Rattle.joining.specs.declared.Joining.{Ghosts}

module _ {V : Type 0} (J : Ghosts V) where
  -- calls from s on run by the rules, and each refusal among them is expected
  abbrev Played : List (Call V) → State V → Type 0
  Played cs s = Run J s (accepted_calls (history J s cs)) (final_state J s cs) × AllByRecursion Expected (refusals (history J s cs))

  one_step : (s : State V) (c : Call V) (cs : List (Call V)) (l : ℕ) → Good l s → ((k : ℕ) (u : State V) → Good k u → Played cs u) → (b : Answer V) (u : State V) (w : Verdict) → (w ≡ Ok tt → Accepted J s c.caller c.action b u) → ((r : Refusal) → w ≡ Err r → Expected r) → Run J s (accepted_calls ((c, answer_by w b) ∷ history J (state_by w u s) cs)) (final_state J (state_by w u s) cs) × AllByRecursion Expected (refusals ((c, answer_by w b) ∷ history J (state_by w u s) cs))
  one_step s c cs l g rest b u (Ok done) d n =
      let up = step_good J l s g c.caller c.action b u (d refl) in
      let more = rest up.level u up.good in
      ((u, d refl, more.0), more.1)
  one_step s c cs l g rest b u (Err r) d n = let more = rest l s g in (more.0, (n r refl, more.1))

  played : (cs : List (Call V)) (l : ℕ) (s : State V) → Good l s → Played cs s
  played [] l s g = (refl, tt)
  played (c ∷ cs) l s g =
      let v : View = view_of (seat s c.caller) in
      let b : Answer V = answer_of (total_in J s.account) v c.action in
      let u : State V = state_of J s c.caller v c.action in
      one_step s c cs l g (played cs) b u (verdict (rules s c.caller v c.action))
      (λ e. accepts J s (counted s (good_sound l s g)) c.caller c.action b u (ap (λ (w : Verdict). (answer_by w b, state_by w u s)) e))
      (fine_verdict Expected (rules s c.caller v c.action) (fine l s g c.caller c.action))

  recorded : (j : ℕ) (mode : Mode) (limit : ℕ) → j < STATIONS → (cs : List (Call V)) → Recorded J j mode limit (accepted_calls (history J (new_state J j mode limit) cs)) (final_state J (new_state J j mode limit) cs)
  recorded j mode limit within cs = record { maker = within; run = (played cs 0 (new_state J j mode limit) (made_good J j mode limit within)).0 }

  sound_after : (j : ℕ) (mode : Mode) (limit : ℕ) → j < STATIONS → (cs : List (Call V)) → SoundState (final_state J (new_state J j mode limit) cs)
  sound_after j mode limit within cs =
      let t = final_state J (new_state J j mode limit) cs in
      let e = ended J j mode limit (accepted_calls (history J (new_state J j mode limit) cs)) t (recorded j mode limit within cs) in
      good_sound e.level t e.good

  -- of every list of calls on a board just made
  pub list_lawful : CommutativeMonoid J.neutral J.joined → (j : ℕ) (mode : Mode) (limit : ℕ) → j < STATIONS → (calls : List (Call V)) →
      let start : State V = new_state J j mode limit in
      LawOfTheRecord J j start (history J start calls) (final_state J start calls)
  list_lawful laws j mode limit within calls =
      let start : State V = new_state J j mode limit in
      let h = accepted_calls (history J start calls) in
      let t = final_state J start calls in
      let rec = recorded j mode limit within calls in
      record {
        sound = sound_after j mode limit within calls;
        by_rules = λ earlier later e cut.
            let before = map (λ d. d.0) earlier in
            rules_agree_lem J (final_state J start before) (counted (final_state J start before) (sound_after j mode limit within before)) e.0.caller e.0.action;
        in_order = reads_in_order J j mode limit h t rec;
        causal = reads_causal J j mode limit h t rec;
        complete = totals_complete J j mode limit h t rec;
        order_free = λ others once same. order_free J j mode limit h (accepted_calls (history J start others)) t (final_state J start others) rec (recorded j mode limit within others) once same laws;
        expected = (played calls 0 start (made_good J j mode limit within)).1;
        moves = moves_on J j mode limit h t rec;
      }

  pub accounts_order_free_lem : (A : Type 0) → AccountsOrderFree J A
  accounts_order_free_lem A add swap empty pass j mode limit within calls others once same =
      let start : State V = new_state J j mode limit in
      let g = accepted_calls (history J start calls) in
      let h = accepted_calls (history J start others) in
      same_account add swap pass g h
      (shares J j mode limit g h (final_state J start calls) (final_state J start others) (recorded j mode limit within calls) (recorded j mode limit within others) once same pass)
      empty

  -- ---- a board that is called more than once

  history_more : (s : State V) (cs ds : List (Call V)) → history J s (cs ++ ds) ≡ history J s cs ++ history J (final_state J s cs) ds
  history_more s [] ds = refl
  history_more s (c ∷ cs) ds = ap (λ h. (c, (call_step J s c).0) ∷ h) (history_more (call_step J s c).1 cs ds)

  -- the law of a record, whatever calls it comes from
  pub record_lawful : CommutativeMonoid J.neutral J.joined → (j : ℕ) (mode : Mode) (limit : ℕ) (h : List (Event V)) (t : State V) → RecordOf J j mode limit h t → LawOfTheRecord J j (new_state J j mode limit) h t
  record_lawful laws j mode limit h t r =
      subst₂ (λ g u. LawOfTheRecord J j (new_state J j mode limit) g u) (sym r.recorded) (sym r.ends) (list_lawful laws j mode limit r.maker r.calls)

  -- the second board's calls are one of the histories of which the law of the first one speaks
  pub records_alike : CommutativeMonoid J.neutral J.joined → RecordsAlike J
  records_alike laws j mode limit g h s t r q =
      subst₂ (λ k u. OrderFree j g s k u) (sym q.recorded) (sym q.ends) ((record_lawful laws j mode limit g s r).order_free q.calls)

  pub record_goes_on : CommutativeMonoid J.neutral J.joined → RecordsGoOn J
  record_goes_on laws s t cs xs e j mode limit h r =
      let start : State V = new_state J j mode limit in
      let more : RecordOf J j mode limit (h ++ zip cs xs) t
      = record {
        maker = r.maker;
        calls = r.calls ++ cs;
        recorded = (λ i. r.recorded i ++ zip cs (e i).0) ∙ ap (λ u. history J start r.calls ++ history J u cs) r.ends ∙ sym (history_more start r.calls cs);
        ends = (λ i. (e i).1) ∙ ap (λ u. final_state J u cs) r.ends ∙ ap (λ p. p.1) (sym (trace_append (call_step J) start r.calls cs));
      } in
      (more, record_lawful laws j mode limit (h ++ zip cs xs) t more)
