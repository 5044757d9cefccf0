-- New names one after the other.
use Rattle.std.specs.Prelude.{ℕ, ◌<◌, List, [], ◌∷◌, length, map, if◌then◌else◌, ◌==◌}
use Rattle.rb_base.specs.Names.{name_at, text_eq}
use Rattle.run_model.specs.Values.{Name}
use Rattle.new_names.specs.declared.compose.NewName.{NewName}

-- what has a name is called so after all
abbrev pub called_after : List NewName → ℕ → ℕ
called_after [] n = n
called_after (e ∷ es) n = called_after es (if n == e.from then e.to else n)

-- each name that is replaced, with what had it first is called after all
abbrev pub map_of : List NewName → List NewName
map_of es = map (λ (e : NewName). record { from = e.from; to = called_after es e.from }) es

-- the same of texts
abbrev pub text_after : List (List ℕ) → List NewName → Name → Name
text_after names [] t = t
text_after names (e ∷ es) t = text_after names es (if text_eq t (name_at names e.from) then name_at names e.to else t)

-- a map as one on texts
abbrev pub texts_of : List (List ℕ) → List NewName → List (Name × Name)
texts_of names es = map (λ (e : NewName). (name_at names e.from, name_at names e.to)) es

-- both names have texts
pub record IsKnownName (names : List (List ℕ)) (e : NewName) : Type 0 where
  pub from : e.from < length names
  pub to : e.to < length names
