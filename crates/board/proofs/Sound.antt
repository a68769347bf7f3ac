-- What the calls put into a seat is sound.
use Rattle.std.proofs.Common.{◌≡◌, ℕ, ◌<◌, List, length, get_or, set, replicate, Some, None, Option, sym, ◌∙◌, ⊎_elim, lit≤, arith}
use Rattle.std.proofs.lemmas.List.{length-set, length-replicate, get_or-replicate, get_or_past}
use Rattle.std.proofs.lemmas.Bool.{cases_lt}
use Rattle.refusal.specs.declared.limits.TheConstants.{STATIONS}
use Rattle.calls.specs.declared.Mode.{Mode}
use Rattle.calls.specs.declared.Mode.TheVariants.{SignalWait, SignalOnly, WaitOnly}
use Rattle.calls.specs.declared.views.View.{View}
use Rattle.calls.specs.Views.{SoundCounts}
use Rattle.phaser.specs.State.{SoundView, SoundSeat, SoundSeats, first_view}
use Rattle.phaser.proofs.Seats.{none_some, of_some, get_or-put, put_cases}
use Rattle.board.specs.Entry.{first_members}

-- ---- a table after one change

pub put_sound : (seats : List (Option View)) (k : ℕ) (o : Option View) → k < STATIONS → SoundSeat o → SoundSeats seats → SoundSeats (set seats k o)
put_sound seats k o within new old =
    let long : length (set seats k o) ≡ STATIONS = length-set seats k o ∙ old.table in
    record {
      table = long;
      views = λ i v e.
          let at = get_or-put seats k o None (omega (arith, old.table)) i in
          ⊎_elim (λ c. new v (sym c.1 ∙ sym at ∙ e)) (λ c. old.views i v (sym c.1 ∙ sym at ∙ e)) (put_cases (λ n. get_or seats n None) k o i);
    }

nobody : SoundSeats (replicate STATIONS None)
nobody =
    let empty : List (Option View) = replicate STATIONS None in
    let long : length empty ≡ STATIONS = length-replicate {A = Option View} STATIONS None in
    record {
      table = long;
      views = λ k v e.
          let vacant : get_or empty k None ≡ None
          = ⊎_elim (λ lt. get_or-replicate STATIONS k None None lt) (λ ge. get_or_past empty k None (omega arith)) (cases_lt k STATIONS) in
          absurd (none_some v (sym vacant ∙ e));
    }

new_counts : (m : Mode) → SoundCounts m 0 0
new_counts SignalWait = omega arith
new_counts SignalOnly = omega arith
new_counts WaitOnly = tt

new_sound : (mode : Mode) → SoundView (first_view mode)
new_sound mode = record { counts = new_counts mode; signed = lit≤ tt; observed = lit≤ tt }

pub alone_sound : (first : ℕ) (mode : Mode) → first < STATIONS → SoundSeats (first_members first mode)
alone_sound first mode within = put_sound (replicate STATIONS None) first (Some (first_view mode)) within (λ v e. of_some SoundView (first_view mode) v e (new_sound mode)) nobody
