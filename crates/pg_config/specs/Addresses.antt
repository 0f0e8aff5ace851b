-- Numeric addresses (RFC 3986, section 3.2.2, without its zone; RFC 4291, section 2.2).
use Rattle.std.specs.Prelude.{◌==◌, ◌&&◌, ◌+◌, ◌-◌, ◌*◌, ℕ, Bool, true, false, List, [], ◌∷◌, ◌++◌, length, drop, Option, Some, None, option_map, nat_le, nat_lt, replicate, if◌then◌else◌}
use Rattle.std.specs.Str.{byte}
use Rattle.pg_config.specs.declared.host.IpAddr.{IpAddr}
use Rattle.pg_config.specs.declared.host.IpAddr.TheVariants.{V4, V6}
use Rattle.pg_config.specs.Numbers.{begins_with, numeral_of}
use Rattle.pg_config.specs.Pieces.{all_of, pieces}

-- a zero stands before another digit
abbrev pub has_leading_zero : List ℕ → Bool
has_leading_zero [] = false
has_leading_zero (c ∷ []) = false
has_leading_zero (c ∷ d ∷ digits) = c == byte "0"

-- a decimal part of at most 255 without leading zeros
abbrev pub ipv4_part : List ℕ → Option ℕ
ipv4_part digits = if has_leading_zero digits then None else numeral_of 10 255 digits

-- so many items
abbrev pub of_length : ℕ → Option (List ℕ) → Option (List ℕ)
of_length n None = None
of_length n (Some items) = if length items == n then Some items else None

-- four parts between dots
abbrev pub ipv4_of : List ℕ → Option (List ℕ)
ipv4_of text = of_length 4 (all_of ipv4_part (pieces (byte ".") text))

-- a group of one to four hex digits
abbrev pub group_of : List ℕ → Option ℕ
group_of digits = if nat_le (length digits) 4 then numeral_of 16 65535 digits else None

-- the two groups of an IPv4 address
abbrev pub two_groups : List ℕ → List ℕ
two_groups (a ∷ b ∷ c ∷ d ∷ []) = (256 * a + b) ∷ (256 * c + d) ∷ []
two_groups parts = []

-- the groups of a piece between colons; where `last`, it may be an IPv4 address
abbrev pub piece_groups : (last : Bool) → List ℕ → Option (List ℕ)
piece_groups last piece = elim (group_of piece) [
  | Some group ↦ Some (group ∷ [])
  | None ↦ if last then option_map two_groups (ipv4_of piece) else None
]

-- both, one after the other
abbrev pub joined : Option (List ℕ) → Option (List ℕ) → Option (List ℕ)
joined None later = None
joined (Some groups) later = option_map (λ more. groups ++ more) later

-- there are no more pieces
abbrev pub none_left : List (List ℕ) → Bool
none_left [] = true
none_left (piece ∷ more) = false

-- the groups of the pieces; where `tail`, an IPv4 address may stand for the last two
abbrev pub groups_in : (tail : Bool) → List (List ℕ) → Option (List ℕ)
groups_in tail [] = Some []
groups_in tail (piece ∷ more) = joined (piece_groups (tail && none_left more) piece) (groups_in tail more)

-- the groups between colons; an empty text has none
abbrev pub groups_of : (tail : Bool) → List ℕ → Option (List ℕ)
groups_of tail text = if length text == 0 then Some [] else groups_in tail (pieces (byte ":") text)

-- two colons stand in front
abbrev pub is_gap : List ℕ → Bool
is_gap [] = false
is_gap (c ∷ rest) = c == byte ":" && begins_with (byte ":") rest

-- what stands before the first `::`, and what stands behind it
abbrev pub around_gap : List ℕ → Option (List ℕ × List ℕ)
around_gap [] = None
around_gap (c ∷ rest) =
    if is_gap (c ∷ rest) then Some ([], drop 1 rest)
    else option_map (λ parts. (c ∷ parts.0, parts.1)) (around_gap rest)

-- eight groups, where zeros stand for those that are left out, of which there is at least one
abbrev pub filled : Option (List ℕ) → Option (List ℕ) → Option (List ℕ)
filled None right = None
filled (Some left) None = None
filled (Some left) (Some right) =
    if nat_lt (length left + length right) 8 then Some (left ++ replicate (8 - (length left + length right)) 0 ++ right) else None

-- eight groups, or less with one `::`
abbrev pub ipv6_of : List ℕ → Option (List ℕ)
ipv6_of text = elim (around_gap text) [
  | None ↦ of_length 8 (groups_of true text)
  | Some parts ↦ filled (groups_of false parts.0) (groups_of true parts.1)
]

-- an address of either kind
abbrev pub address_of : List ℕ → Option IpAddr
address_of text = elim (ipv4_of text) [
  | Some parts ↦ Some (V4 parts)
  | None ↦ option_map (λ groups. V6 groups) (ipv6_of text)
]
