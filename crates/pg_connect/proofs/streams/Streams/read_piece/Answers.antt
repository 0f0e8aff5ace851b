use Rattle.std.proofs.Common.{◌++◌, refl, ap, ◌∙◌, take, drop, length, arith}
use Rattle.pg_connect.proofs.Joining.{keeps_same, untouched_same}
use Rattle.pg_connect.proofs.Taking.{front_over, piece_taken, piece_still, piece_end}
use Rattle.pg_connect.proofs.streams.Streams.read_piece.Goals as goal

pub returns-in_err-make_room-clause-takes : goal.returns-in_err-make_room-clause-takes
returns-in_err-make_room-clause-takes g c =
    let l = g.L.Link.view c.args.link.now in
    piece_still c.args.self.now c.make_room.new.buffer c.make_room.new.piece l l c.requires.unread c.make_room.ensures.items (untouched_same l) (keeps_same l)

pub returns-then-self-clause-takes : goal.returns-then-self-clause-takes
returns-then-self-clause-takes g c =
    let room = c.make_room.new.piece in
    let out = c.read.new.out in
    let behind = drop (length out) room.items in
    piece_taken c.args.self.now c.take_in.new.self _ (g.L.Link.view c.args.link.now) (g.L.Link.view c.read.new.self) out c.in-Got.n c.requires.unread
    c.in-Got.ensures.answer.0 c.in-Got.ensures.keeps
    (c.take_in.ensures.buffer ∙ ap (λ x. x ++ take c.in-Got.n (take room.len (out ++ behind))) c.make_room.ensures.items
    ∙ ap (λ x. c.args.self.now.buffer.items ++ x) (front_over c.in-Got.n room.len out behind c.in-Got.ensures.answer.0.fits (grind arith))) c.take_in.ensures.same

pub returns-else-self-clause-takes : goal.returns-else-self-clause-takes
returns-else-self-clause-takes g c =
    let room = c.make_room.new.piece in
    let out = c.read.new.out in
    let behind = drop (length out) room.items in
    piece_taken c.args.self.now c.take_in.new.self _ (g.L.Link.view c.args.link.now) (g.L.Link.view c.read.new.self) out c.in-Got.n c.requires.unread
    c.in-Got.ensures.answer.0 c.in-Got.ensures.keeps
    (c.take_in.ensures.buffer ∙ ap (λ x. x ++ take c.in-Got.n (take room.len (out ++ behind))) c.make_room.ensures.items
    ∙ ap (λ x. c.args.self.now.buffer.items ++ x) (front_over c.in-Got.n room.len out behind c.in-Got.ensures.answer.0.fits (grind arith))) c.take_in.ensures.same

pub returns-in-NotReady-clause-takes : goal.returns-in-NotReady-clause-takes
returns-in-NotReady-clause-takes g c =
    piece_still c.args.self.now c.make_room.new.buffer _ (g.L.Link.view c.args.link.now) (g.L.Link.view c.read.new.self) c.requires.unread c.make_room.ensures.items
    (record { bytes = c.in-NotReady.ensures.answer.0.bytes; promised = c.in-NotReady.ensures.promise.kept refl }) c.in-NotReady.ensures.keeps

pub returns-then-is_empty-clause-takes : goal.returns-then-is_empty-clause-takes
returns-then-is_empty-clause-takes g c =
    piece_end c.args.self.now c.make_room.new.buffer _ (g.L.Link.view c.args.link.now) (g.L.Link.view c.read.new.self) c.requires.unread c.make_room.ensures.items
    c.in-End.ensures.answer.2.bytes c.in-End.ensures.answer.0 c.in-End.ensures.keeps

pub returns-else-is_empty-clause-takes : goal.returns-else-is_empty-clause-takes
returns-else-is_empty-clause-takes g c =
    piece_end c.args.self.now c.make_room.new.buffer _ (g.L.Link.view c.args.link.now) (g.L.Link.view c.read.new.self) c.requires.unread c.make_room.ensures.items
    c.in-End.ensures.answer.2.bytes c.in-End.ensures.answer.0 c.in-End.ensures.keeps

pub returns-in-Failed-clause-takes : goal.returns-in-Failed-clause-takes
returns-in-Failed-clause-takes g c =
    piece_still c.args.self.now c.make_room.new.buffer _ (g.L.Link.view c.args.link.now) (g.L.Link.view c.read.new.self) c.requires.unread c.make_room.ensures.items
    (record { bytes = c.in-Failed.ensures.answer.bytes; promised = c.in-Failed.ensures.promise.kept refl }) c.in-Failed.ensures.keeps
