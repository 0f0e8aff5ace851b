-- What lies there behind a step that reads nothing.
use Rattle.std.proofs.Common.{◌≡◌, List, [], map, None, ap, ◌∙◌}
use Rattle.pg_spec.specs.Links.{LinkView}
use Rattle.pg_wire.specs.declared.body.ErrorResponseBody.{ErrorResponseBody}
use Rattle.pg_connect.specs.declared.streams.Streams.{Streams}
use Rattle.pg_connect.specs.Passes.{OnlySends, waiting, notice_of}
use Rattle.pg_connect.specs.Reads.{IsCleared}

-- by its fields
pub cleared_by : (s : Streams) → s.held ≡ None → s.delayed.items ≡ [] → s.unread ≡ None → IsCleared s
cleared_by s held delayed unread = record {
  held = ap waiting held;
  delayed = ap (λ (l : List ErrorResponseBody). map notice_of l) delayed;
  unread = unread;
}

-- where nothing lay there, nothing lies there behind a step that only sends
pub still_cleared : (s t : Streams) (l m : LinkView) → OnlySends s t l m → IsCleared s → IsCleared t
still_cleared s t l m only was = record {
  held = ap waiting only.held ∙ was.held;
  delayed = only.delayed ∙ was.delayed;
  unread = only.unread ∙ was.unread;
}
