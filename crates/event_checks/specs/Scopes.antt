-- The names that are known between events.
use Rattle.std.specs.Prelude.{◌≡◌, ℕ, Bool, false, ◌||◌, if◌then◌else◌, List, [], ◌∷◌, ◌++◌, map, reverse, Option, Some, None, unwrap_or, Vec}
use Rattle.std.specs.Option.{option_or}
use Rattle.std.specs.Str.{bytes_eq}
use Rattle.std.specs.declared.alloc.Global.{Global}
use Rattle.std.specs.declared.hash.FoldHasher.{FoldHasher}
use Rattle.std.specs.declared.hash.BuildHasherDefault.{BuildHasherDefault}
use Rattle.indexmap.specs.IndexMap.{IndexMap, get_by}
use Rattle.grammar_model.specs.Terminal.{Text}
use Rattle.grammar_model.specs.Words.{is_pseudo}
use Rattle.grammar_model.specs.Spanned.{Declared}
use Rattle.grammar_model.specs.Checks.{Known, known_of, is_fixed}
use Rattle.parse_events.specs.declared.event.Event.{Event}
use Rattle.parse_events.specs.declared.event.Event.TheVariants.{Target, Enter, Block}
use Rattle.event_checks.specs.declared.scopes.Change.{Change}
use Rattle.event_checks.specs.declared.scopes.Change.TheVariants.{Entered, Declared as Changed}
use Rattle.event_checks.specs.declared.scopes.Scopes.{Scopes}
use Rattle.event_checks.specs.Lists.{declared}

-- the names that are known, and those that were known before each open scope was entered, the innermost scope first
pub record Scoped : Type 0 where
  pub now : List Known
  pub outer : List (List Known)

-- what is known behind the innermost scope
abbrev pub left : List (List Known) → Scoped
left [] = record { now = []; outer = [] }
left (ks ∷ outer) = record { now = ks; outer = outer }

-- what is known behind an event
abbrev pub behind : Event → Scoped → Scoped
behind (Enter ps ds) s = record { now = known_of (declared ps) (declared ds) ++ s.now; outer = s.now ∷ s.outer }
behind (Block f e n c) s = left s.outer
behind e s = s

-- the place of an event that assigns a name that can not be assigned
abbrev pub assigned_at : List Known → Event → Option ℕ
assigned_at ks (Target f n) = if is_pseudo n || is_fixed ks n then Some f else None
assigned_at ks e = None

-- the first event that assigns a name that can not be assigned
abbrev pub first_fixed_in : Scoped → List Event → Option ℕ
first_fixed_in s [] = None
first_fixed_in s (e ∷ es) = option_or (assigned_at s.now e) (first_fixed_in (behind e s) es)

-- the names of a list, all fixed or all not
abbrev pub known_as : Bool → List Declared → List Known
known_as fixed ds = map (λ (d : Declared). record { name = d.name; fixed = fixed }) ds

-- names, and whether each is fixed
abbrev pub FixedTable : Type 0
FixedTable = IndexMap (Vec ℕ Global) Bool (BuildHasherDefault FoldHasher)

-- whether a table has a name as fixed
abbrev pub fixed_at : FixedTable → Text → Bool
fixed_at table n = unwrap_or (get_by (λ k. bytes_eq n k.items) table) false

-- the fixed names are those of a list of known ones
abbrev pub IsFixedBy : (Text → Bool) → List Known → Type 0
IsFixedBy fixed ks = (n : Text) → fixed n ≡ is_fixed ks n

-- fixed names where one name is changed
abbrev pub changed : (Text → Bool) → Text → Bool → Text → Bool
changed fixed name now n = if bytes_eq n name then now else fixed n

-- undoing the changes, the last one first, gives what was known in each open scope, and at last that nothing is known
abbrev pub Restores : List Change → (Text → Bool) → List (List Known) → Type 0
Restores [] fixed [] = IsFixedBy fixed []
Restores [] fixed (ks ∷ outer) = ⊥
Restores (Entered ∷ cs) fixed [] = ⊥
Restores (Entered ∷ cs) fixed (ks ∷ outer) = IsFixedBy fixed ks × Restores cs fixed outer
Restores (Changed name before ∷ cs) fixed outer = Restores cs (changed fixed name.items before) outer

-- the scopes hold these known names, and give back those of each scope
pub record IsScopes (scopes : Scopes) (ks : List Known) (outer : List (List Known)) : Type 0 where
  pub now : IsFixedBy (fixed_at scopes.fixed) ks
  pub before : Restores (reverse scopes.changes.items) (fixed_at scopes.fixed) outer
