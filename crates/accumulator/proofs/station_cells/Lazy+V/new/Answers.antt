use Rattle.std.proofs.Common.{◌≡◌, ◌*◌, ◌≤◌, [], ◌∷◌, ◌++◌, length, drop, ap, ◌∙◌, length-take-le, refl, rules}
use Rattle.accumulator.specs.declared.TheConstants.{KEPT}
use Rattle.accumulator.specs.Meaning.{new_meaning}
use Rattle.accumulator.specs.Lazy.{slot_total, with_neutral_front}
use Rattle.accumulator.proofs.OneSlot.{slots_made}
use Rattle.accumulator.proofs.CellSlots.{slot_total_cleared}
use Rattle.accumulator.proofs.OwnCells.{own_cells}
use Rattle.accumulator.proofs.Filled.{filled}
use Rattle.accumulator.proofs.station_cells.Lazy+V.new.Goals as goal

pub returns : goal.returns
returns g c =
    let J = g.V.Joining in
    let limit = c.args.limit in
    let window = c.new.result in
    let same = c.new.ensures.limit in
    let xs = c.args.cells.now in
    let room : KEPT * limit ≤ length xs = search rules in
    let cells : c.fill_with.new.self ++ drop (KEPT * limit) xs ≡ with_neutral_front J (KEPT * limit) xs =
    ap (λ ys. ys ++ drop (KEPT * limit) xs)
    (filled _ J.neutral (λ p x q k. search rules) (KEPT * limit) c.fill_with.new.self _ _ c.fill_with.ensures.ran.1 (c.fill_with.ensures.len ∙ length-take-le (KEPT * limit) xs room)) in
    record {
      meaning = slots_made J _ window.limit window.first
          (λ r h.
          ap (λ n. slot_total J n (c.fill_with.new.self ++ drop (KEPT * limit) xs) r) same
          ∙ ap (λ ys. slot_total J limit ys r) cells ∙ slot_total_cleared g.met.V.Joining.laws xs limit r h room)
          c.new.ensures.first
          ∙ ap (new_meaning J) same;
      cells = λ i. record { names = c.args.cells.ghost_name ∷ []; values = cells i };
      own = λ calls. own_cells J limit _ (drop (KEPT * limit) xs) calls cells;
    }
