-- One call more of a trace, and a trace after another.
use Rattle.std.proofs.Common.{◌≡◌, ℕ, ◌+◌, ◌<◌, ◌≤◌, List, [], ◌∷◌, ◌++◌, length, get_or, drop, sym, refl, ap, ◌∙◌}
use Rattle.std.proofs.lemmas.List.{at_drop_more, at_drop_all, append_assoc, append-nil}
use Rattle.refusal.specs.Trace.{trace}

-- earlier answers, and a trace that follows them
abbrev pub after : {S R : Type 0} → List R → List R × S → List R × S
after xs r = (xs ++ r.0, r.1)

module _ {S C R : Type 0} (step : S → C → R × S) where
  pub trace_more : (xs : List R) (s t : S) (cs : List C) (i : ℕ) (d : C) (a : R) → i < length cs → ◌≡◌ {A = R × S} (a, t) (step s (get_or cs i d)) → after (xs ++ a ∷ []) (trace step t (drop (i + 1) cs)) ≡ after xs (trace step s (drop i cs))
  trace_more xs s t cs i d a h e =
      let rest : List C = drop (i + 1) cs in
      let one : R × S → List R × S = λ p. (p.0 ∷ (trace step p.1 rest).0, (trace step p.1 rest).1) in
      (λ k. (append_assoc xs (a ∷ []) (trace step t rest).0 k, (trace step t rest).1))
      ∙ ap (after xs) (ap one e ∙ sym (at_drop_more (trace step s) cs i d h))

  pub trace_all : (xs : List R) (s : S) (cs : List C) (i : ℕ) → length cs ≤ i → (xs, s) ≡ after xs (trace step s (drop i cs))
  trace_all xs s cs i h = (λ k. (sym (append-nil xs) k, s)) ∙ ap (after xs) (sym (at_drop_all (trace step s) cs i h))

  pub trace_append : (s : S) (cs ds : List C) → trace step s (cs ++ ds) ≡ after (trace step s cs).0 (trace step (trace step s cs).1 ds)
  trace_append s [] ds = refl
  trace_append s (c ∷ cs) ds = let more = trace_append (step s c).1 cs ds in λ i. ((step s c).0 ∷ (more i).0, (more i).1)

-- what is seen of the states decides the answers, so it has a trace of its own
pub trace_seen : {S T C R : Type 0} (step : S → C → R × S) (next : T → C → R × T) (seen : S → T) → ((s : S) (c : C) → ◌≡◌ {A = R × T} ((step s c).0, seen (step s c).1) (next (seen s) c)) →
    (s : S) (cs : List C) → ◌≡◌ {A = List R × T} ((trace step s cs).0, seen (trace step s cs).1) (trace next (seen s) cs)
trace_seen step next seen each s [] = refl
trace_seen {T = T} {R = R} step next seen each s (c ∷ cs) =
    let rest = trace_seen step next seen each (step s c).1 cs in
    let one : R × T → List R × T = λ p. (p.0 ∷ (trace next p.1 cs).0, (trace next p.1 cs).1) in
    (λ i. ((step s c).0 ∷ (rest i).0, (rest i).1)) ∙ ap one (each s c)
