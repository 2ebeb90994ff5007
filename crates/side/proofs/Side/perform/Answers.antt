-- `side::Side::perform` does one action. Assumes nothing.
use mathlib.Core.Path.{◌≡◌, ◌∙◌}
use native.Mathlib.Omega.{arith}
use lib.ListN.{length}
use Rattle.side.specs.Following.{followed_as}
use Rattle.side.proofs.Forming.{err_stuck}
use Rattle.side.proofs.Moving.{room_both, port_room, assign_parsed, assign_large, assign_done, read_full, read_done, write_parsed, write_large, write_full, write_done}
use Rattle.side.proofs.Side.perform.Goals as goal

pub sum_at-requires : goal.sum_at-requires
sum_at-requires c = assign_parsed _ c.args.before.now c.args.self.now c.in-Assign.is c.requires

pub returns-in_err-s-in-Assign : goal.returns-in_err-s-in-Assign
returns-in_err-s-in-Assign c = err_stuck _ c.from_residual.ensures.0 ∙ assign_large _ _ _ c.in-Assign.is c.sum_at.ensures c.in_err-s-in-Assign.was

pub returns-then-not-has_room : goal.returns-then-not-has_room
unfolding followed_as
returns-then-not-has_room c = read_full _ _ _ c.in-Read.is c.count_on-n.ensures c.has_room.ensures c.if-not-has_room.true

pub read_symbol-requires : goal.read_symbol-requires
read_symbol-requires c = room_both c.has_room.ensures c.if-not-has_room.false

pub overflow_add-self : goal.overflow_add-self
overflow_add-self c = omega (arith, (room_both c.has_room.ensures c.if-not-has_room.false).1)

pub bounds-self-port : goal.bounds-self-port
bounds-self-port c = (room_both c.has_room.ensures c.if-not-has_room.false).0

pub sum_at-requires-in-Write : goal.sum_at-requires-in-Write
sum_at-requires-in-Write c = write_parsed _ c.args.before.now c.args.self.now c.in-Write.is c.requires

pub returns-in_err-s-in-Write : goal.returns-in_err-s-in-Write
returns-in_err-s-in-Write c =
    err_stuck _ c.from_residual-in_err-s-in-Write.ensures.0 ∙ write_large _ _ _ c.in-Write.is c.sum_at-in-Write.ensures c.in_err-s-in-Write.was

pub returns-then-not-has_room-2 : goal.returns-then-not-has_room-2
unfolding followed_as
returns-then-not-has_room-2 c =
    write_full _ _ _ c.in-Write.is c.sum_at-in-Write.ensures c.in_ok-s-in-Write.was c.wrote_on.ensures c.has_room-in-Write.ensures c.if-not-has_room-2.true

pub bounds-self-port-in-Write : goal.bounds-self-port-in-Write
bounds-self-port-in-Write c = (room_both c.has_room-in-Write.ensures c.if-not-has_room-2.false).0

pub listed : goal.listed
listed c =
    let four : length c.args.self.now.writes ≡ 4 = search in
    omega (arith, four, (room_both c.has_room-in-Write.ensures c.if-not-has_room-2.false).0)

pub push-requires : goal.push-requires
push-requires c =
    (omega arith, port_room c.args.self.now.writes _ _ (search) c.wrote_on.ensures c.has_room-in-Write.ensures c.if-not-has_room-2.false)

pub returns-in_ok-s-in-Assign : goal.returns-in_ok-s-in-Assign
unfolding followed_as
returns-in_ok-s-in-Assign c = assign_done _ _ _ c.in-Assign.is c.sum_at.ensures c.in_ok-s-in-Assign.was c.set.ensures.after

pub returns-else-not-has_room : goal.returns-else-not-has_room
unfolding followed_as
returns-else-not-has_room c =
    read_done _ _ _ c.in-Read.is c.count_on-n.ensures c.has_room.ensures c.if-not-has_room.false c.read_symbol.ensures c.symbol.ensures c.set-in-Read.ensures.after

pub returns-else-not-has_room-2 : goal.returns-else-not-has_room-2
unfolding followed_as
returns-else-not-has_room-2 c =
    write_done _ _ _ c.in-Write.is c.sum_at-in-Write.ensures c.in_ok-s-in-Write.was c.wrote_on.ensures c.has_room-in-Write.ensures _
    c.if-not-has_room-2.false c.push.ensures.items
