-- Keys that two lists have in common, and how these pair up in order.
use Rattle.std.specs.Prelude.{ℕ, suc, List, [], ◌∷◌, drop, slice_get, Bool, false, if◌then◌else◌, Option, None}
use Rattle.std.specs.List.{list_any}
use Rattle.std.specs.Option.{option_and_then, option_map_or}
use Rattle.rb_base.specs.Names.{text_eq}
use Rattle.file_model.specs.Filing.{Text}

-- whether a key is in a list
abbrev pub is_listed : List Text → Text → Bool
is_listed keys key = list_any (text_eq key) keys

-- the places of the keys that pass, counted from a number
abbrev pub places_from : ℕ → (Text → Bool) → List Text → List ℕ
places_from k p [] = []
places_from k p (key ∷ keys) = if p key then k ∷ places_from (suc k) p keys else places_from (suc k) p keys

-- for each key that passes the next of the places, and nothing for each other one
abbrev pub partnered : (Text → Bool) → List Text → List ℕ → List (Option ℕ)
partnered p [] places = []
partnered p (key ∷ keys) places =
    if p key then slice_get places 0 ∷ partnered p keys (drop 1 places) else None ∷ partnered p keys places

-- for each key that the others have too the place among them of the one that is as many-th of those that both lists have
abbrev pub partners : List Text → List Text → List (Option ℕ)
partners keys others = partnered (is_listed others) keys (places_from 0 (is_listed keys) others)

-- the partner at a place
abbrev pub partner_at : List (Option ℕ) → ℕ → Option ℕ
partner_at partners place = option_and_then (λ o. o) (slice_get partners place)

-- whether an item is equal to the one of a list to which a partner leads
abbrev pub is_partner_equal : {X : Type 0} → (X → X → Bool) → List X → X → Option ℕ → Bool
is_partner_equal equal ys x partner = option_map_or (equal x) (option_and_then (slice_get ys) partner) false
