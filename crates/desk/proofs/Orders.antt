-- Which of two views happened before the other, as a test.
use Rattle.std.proofs.Common.{◌≡◌, ◌↔◌, Bool, true, false, ◌&&◌, nat_lt, refl}
use Rattle.std.proofs.lemmas.Bool.{and_parts, and_from, ltb-true, lt-ltb, false≢true}
use Rattle.calls.specs.declared.views.View.{View}
use Rattle.calls.specs.Views.{signs, waits, Before}
use Rattle.desk.specs.Answers.{is_before}

pub before_test : (v w : View) → (is_before v w ≡ true) ↔ Before v w
before_test v w = (to, from)
  where
    to : is_before v w ≡ true → Before v w
    to e =
        let p = and_parts (signs v.mode) (nat_lt v.sp w.wp && waits w.mode) e in
        let q = and_parts (nat_lt v.sp w.wp) (waits w.mode) p.1 in
        record { signaler = p.0; less = ltb-true v.sp w.wp q.0; waiter = q.1 }

    from : Before v w → is_before v w ≡ true
    from b = and_from _ _ b.signaler (and_from _ _ (lt-ltb v.sp w.wp b.less) b.waiter)

-- two tests of one fact
same_test : {P : Type 0} (b c : Bool) → (b ≡ true) ↔ P → (c ≡ true) ↔ P → b ≡ c
same_test true true h k = refl
same_test true false h k = absurd (false≢true (k.1 (h.0 refl)))
same_test false true h k = absurd (false≢true (h.1 (k.0 refl)))
same_test false false h k = refl

pub is_test : (b : Bool) (v w : View) → (b ≡ true) ↔ Before v w → b ≡ is_before v w
is_test b v w h = same_test b (is_before v w) h (before_test v w)
