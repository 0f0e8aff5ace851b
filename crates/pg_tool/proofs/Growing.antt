-- Told bytes that grow piece by piece.
use Rattle.std.proofs.Common.{◌≡◌, ℕ, ◌+◌, ◌≤◌, List, ◌++◌, take, drop, take-append-drop, Option, Some, None, ap, sym, ◌∙◌, append_assoc, arith}
use Rattle.std.specs.Prelude.{option_map}
use Rattle.std.proofs.Math.Seq.{take-add}
use Rattle.pg_spec.specs.Links.{Grew, Rose}
use Rattle.pg_wire.specs.Streams.{SinkView}
use Rattle.pg_tool.specs.Writing.{WroteFront}

-- two pieces are one
pub grew-joined : (a b c : Option (List ℕ)) (xs ys : List ℕ) → Grew a b xs → Grew b c ys → Grew a c (xs ++ ys)
grew-joined None b c xs ys h k = k ∙ ap (option_map (λ told. told ++ ys)) h
grew-joined (Some told) b c xs ys h k =
    k ∙ ap (option_map (λ told. told ++ ys)) h ∙ ap (λ l. Some l) (append_assoc told xs ys)

-- nothing more is the same
pub grew-same : (a b c : Option (List ℕ)) (xs : List ℕ) → Grew a b xs → c ≡ b → Grew a c xs
grew-same a b c xs h e = e ∙ h

-- a piece of what is left
pub grew-next : (a b c : Option (List ℕ)) (text rest : List ℕ) (at n : ℕ) → rest ≡ drop at text →
    Grew a b (take at text) → Grew b c (take n rest) → Grew a c (take (at + n) text)
grew-next a b c text rest at n e h k =
    grew-joined a b c (take at text) (take n rest) h k
    ∙ ap (λ l. option_map (λ told. told ++ l) a) (ap (λ l. take at text ++ take n l) e ∙ sym (take-add at n text))

-- no fault came between, and then one came
pub rose-later : (a b c : ℕ) → a ≤ b → Rose b c → Rose a c
rose-later a b c le rose = omega arith

-- a front was written so far, and then nothing more
pub front-of : (old mid new : SinkView) (text : List ℕ) (at : ℕ) → Grew old.written mid.written (take at text) → new.written ≡ mid.written → WroteFront old new text
front-of old mid new text at h e = record {
  front = take at text;
  rest = drop at text;
  whole = take-append-drop at text;
  written = grew-same old.written mid.written new.written (take at text) h e;
}
