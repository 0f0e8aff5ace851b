-- A piece that was read.
use Rattle.std.proofs.Common.{◌≡◌, ℕ, ◌+◌, Bool, true, false, ◌||◌, List, [], ◌++◌, length, length-take, take, Result, append-nil, refl, sym, ap, subst, ◌∙◌, arith}
use Rattle.std.specs.declared.alloc.Global.{Global}
use Rattle.bytes.specs.declared.unique.BytesMut.{BytesMut}
use Rattle.pg_spec.specs.Links.{LinkView}
use Rattle.pg_wire.specs.LinkCalls.{Gives, Keeps, SameBytes, SameWriting}
use Rattle.pg_types.specs.declared.error.Error.{Error}
use Rattle.pg_connect.specs.Passes.{Untouched}
use Rattle.pg_connect.proofs.Dues.{due_front, due_none}
use Rattle.pg_connect.proofs.Joining.{grew_same}
use Rattle.pg_connect.proofs.Sends.{or_false, or_true, some_taken}
use Rattle.pg_startup.specs.declared.transfer.Transfer.{Transfer}
use Rattle.pg_startup.specs.Transfers.{Gets, gave_end}

-- nothing was given: the bytes are as before, wherever they stand
pub gets-none : (s : Transfer) (b : BytesMut Global) (l m : LinkView) (most : ℕ) (r : Result Bool Error) → b.items ≡ s.buffer.items → Untouched l m → SameWriting l m → Keeps l m →
    gave_end r ≡ false → Gets s (record s { buffer = b }) l m most r
gets-none s b l m most r same bytes writing keeps more = record {
  got = [];
  given = grew_same l.given m.given bytes.bytes.given;
  due = due_none l.due m.due [] bytes.bytes.due refl;
  fits = omega arith;
  taken = bytes.bytes.taken;
  flushed = writing.flushed;
  shut = writing.shut;
  buffer = same ∙ sym (append-nil s.buffer.items);
  count = omega arith;
  same = refl;
  moved = or_false s.moved ∙ ap (λ (x : Bool). s.moved || x) (sym more);
  still = λ none. bytes;
  link = keeps;
}

-- the link gave its end
pub gets-end : (s : Transfer) (b : BytesMut Global) (l m : LinkView) (most : ℕ) (r : Result Bool Error) → b.items ≡ s.buffer.items → SameBytes l m → SameWriting l m → Keeps l m →
    gave_end r ≡ true → Gets s (record s { buffer = b; moved = true }) l m most r
gets-end s b l m most r same bytes writing keeps over = record {
  got = [];
  given = grew_same l.given m.given bytes.given;
  due = due_none l.due m.due [] bytes.due refl;
  fits = omega arith;
  taken = bytes.taken;
  flushed = writing.flushed;
  shut = writing.shut;
  buffer = same ∙ sym (append-nil s.buffer.items);
  count = omega arith;
  same = refl;
  moved = or_true s.moved ∙ ap (λ (x : Bool). s.moved || x) (sym over);
  still = λ none. absurd cc;
  link = keeps;
}

-- it gave a piece
pub gets-piece : (s t : Transfer) (l m : LinkView) (out : List ℕ) (n most : ℕ) (r : Result Bool Error) → Gives l m out n → length out ≡ most → Keeps l m →
    t.buffer.items ≡ s.buffer.items ++ take n out → t ≡ record s { buffer = t.buffer; given = s.given + length (take n out); moved = true } → gave_end r ≡ false → Gets s t l m most r
gets-piece s t l m out n most r gives all keeps buffer same more =
    subst (λ (x : Transfer). Gets s x l m most r) (sym same)
    (record {
      got = take n out;
      given = gives.given;
      due = due_front l.due m.due n (take n out) gives.front gives.due;
      fits = omega (arith, length-take n out, all, gives.fits);
      taken = gives.taken;
      flushed = gives.writing.flushed;
      shut = gives.writing.shut;
      buffer = buffer;
      count = refl;
      same = refl;
      moved = or_true s.moved ∙ ap (λ (x : Bool). s.moved || x) (sym (ap (λ (x : Bool). x || gave_end r) (some_taken n out gives.some gives.fits)));
      still = λ none. absurd cc;
      link = keeps;
    })
