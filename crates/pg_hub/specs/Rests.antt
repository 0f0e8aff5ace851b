-- What of each request hasn't gone out.
use Rattle.std.specs.Prelude.{◌≡◌, ◌⊎◌, ℕ, suc, ◌+◌, ◌-◌, List, [], ◌∷◌, ◌++◌, length, drop, replicate, slice_set, Bool, false, ◌&&◌, not, if◌then◌else◌, get_or, nat_lt}
use Rattle.pg_desk.specs.declared.event.Booking.{Booking}
use Rattle.pg_desk.specs.History.{first_flag, rest_flags}

-- the parts that wait, and whether it is a copy that isn't ended
pub record Rest : Type 0 where
  pub parts : List (List ℕ)
  pub copying : Bool

-- what of request k hasn't gone out
abbrev pub rest_at : List Rest → ℕ → Rest
rest_at outgoing k = get_or outgoing k (record { parts = []; copying = false })

-- nothing is left of a request that went out whole
abbrev pub nothing_left : Rest
nothing_left = record { parts = []; copying = false }

-- what is left of all requests, and how many went out whole: the first ones
pub record Outbound : Type 0 where
  pub rests : List Rest
  pub whole : ℕ

-- the first ones went out whole, and of the others this is left
abbrev pub rests_of : (whole : ℕ) → List Rest → List Rest
rests_of whole left = replicate whole nothing_left ++ left

-- A part went out of the first request that hadn't gone out whole, which is one that did where nothing of it is left.
pub record PopsFirst (old new : Outbound) (part : List ℕ) : Type 0 where
  pub left : Rest
  pub parts : (rest_at old.rests old.whole).parts ≡ part ∷ left.parts
  pub copying : left.copying ≡ (rest_at old.rests old.whole).copying
  pub rests : new.rests ≡ slice_set old.rests old.whole left
  pub whole : ((left ≡ nothing_left) × (new.whole ≡ old.whole + 1)) ⊎ ((left ≡ nothing_left → ⊥) × (new.whole ≡ old.whole))

-- what of each request hasn't gone out, where n parts went out
abbrev pub rests : ℕ → List Booking → List Bool → List Rest
rests n [] cs = []
rests n (b ∷ bs) cs = record { parts = drop n b.parts; copying = first_flag cs } ∷ rests (n - length b.parts) bs (rest_flags cs)

-- whether a request has gone out whole, where n parts of it and those behind it went out
abbrev pub is_whole : ℕ → Booking → Bool → Bool
is_whole n b c = not c && not (nat_lt n (length b.parts))

-- how many requests have gone out whole, where n parts went out
abbrev pub whole_of : ℕ → List Booking → List Bool → ℕ
whole_of n [] cs = 0
whole_of n (b ∷ bs) cs = if is_whole n b (first_flag cs) then suc (whole_of (n - length b.parts) bs (rest_flags cs)) else 0

-- what parts weigh: their bytes, and one more for each, so that a part of no bytes counts too
abbrev pub weight_of : List (List ℕ) → ℕ
weight_of [] = 0
weight_of (part ∷ parts) = length part + 1 + weight_of parts

-- what all parts that wait weigh
abbrev pub weight_in : List Rest → ℕ
weight_in [] = 0
weight_in (r ∷ rs) = weight_of r.parts + weight_in rs
