-- What a reply holds, by the tags of its messages (PostgreSQL documentation, "Message Formats").
use Rattle.std.specs.Prelude.{ℕ, ◌<◌, Bool, false, not, ◌&&◌, if◌then◌else◌, ◌||◌, ◌==◌, List, [], ◌∷◌}
use Rattle.std.specs.List.{AllByRecursion, list_any}
use Rattle.std.specs.Str.{byte}
use Rattle.pg_spec.specs.RawMessages.{RawMessage}
use Rattle.pg_machine.specs.declared.tags.Tags.{Tags}

-- with a message of this tag behind the others
abbrev pub heard : Tags → ℕ → Tags
heard t tag = record {
  whole = t.whole;
  ready = t.ready || tag == byte "Z";
  error = t.error || tag == byte "E";
  copy_in = t.copy_in || tag == byte "G";
  again = t.again || (t.copy_in && tag == byte "G");
  ends = tag == byte "G";
}

-- with these messages behind the others
abbrev pub heard_all : Tags → List RawMessage → Tags
heard_all t [] = t
heard_all t (m ∷ ms) = heard_all (heard t m.tag) ms

-- two of the messages pass the test
abbrev pub has_two : (RawMessage → Bool) → List RawMessage → Bool
has_two p [] = false
has_two p (m ∷ ms) = (p m && list_any p ms) || has_two p ms

-- numbers of bytes
abbrev pub AreBytes : List ℕ → Type 0
AreBytes s = AllByRecursion (λ b. b < 256) s

-- nothing was heard
abbrev pub unheard : Tags
unheard = record { whole = false; ready = false; error = false; copy_in = false; again = false; ends = false }

-- a reply of these tags may be given, where it opens a copy or doesn't
abbrev pub sounds : Tags → (executes opens : Bool) → Bool
sounds t executes opens = t.whole && (not t.ready && (if opens then executes && t.ends && not t.error else not t.copy_in))
