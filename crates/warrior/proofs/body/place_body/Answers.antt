-- The goals of `warrior::body::place_body` that the check leaves.
use Rattle.warrior.proofs.Bodies.{no_place, too_long, in_one, in_two}
use Rattle.warrior.proofs.body.place_body.Goals as goal

pub returns-then-core-place : goal.returns-then-core-place
returns-then-core-place c = no_place c.args.core.now c.args.place c.args.size c.args.body.now c.if-core-place.true

pub returns-then-core-count : goal.returns-then-core-count
returns-then-core-count c = too_long c.args.core.now c.args.place c.args.size c.args.body.now c.if-core-count.true

pub returns-then-room-count : goal.returns-then-room-count
returns-then-room-count c =
    let if3 = c.if-room-count in
    let write-cells = c.write_cells in
    let if2 = c.if-core-count in
    let if1 = c.if-core-place in
    in_two c.args.core.now c.args.place c.args.size c.args.body.now if1.false if2.false if3.true
    write-cells.ensures c.write_cells-then-room-count.ensures

pub returns-else-room-count : goal.returns-else-room-count
returns-else-room-count c =
    let write-cells = c.write_cells in
    let if2 = c.if-core-count in
    let if1 = c.if-core-place in
    in_one c.args.core.now c.args.place c.args.size c.args.body.now if1.false if2.false c.if-room-count.false
    write-cells.ensures
