-- Images in whose methods some parts are others.
use Rattle.std.specs.Prelude.{◌≡◌, Bool, true, false, List, [], ◌∷◌, Option}
use Rattle.tree_model.specs.Tree.{TreeOf}
use Rattle.image_model.specs.Image.{EntryOf, DoItOf, ImageOf}
use Rattle.image_model.specs.ImageNames.{OptionNames}
use Rattle.run_model.specs.Values.{Name}
use Rattle.resolved_model.specs.ResolvedImages.{resolved_entry, resolved_image}
use Rattle.resolved_model.specs.Environments.{Declared, opened}
use Rattle.unfolded_calls.specs.Unfolding.{Allowed, IsOpen}
use Rattle.unfolded_calls.specs.SendsOnly.{StatementsSendOnly}
use Rattle.unfolded_places.specs.Becoming.{BecomeLines}
use Rattle.unfolded_places.specs.PartsReplaced.{parts_stored}

-- which parts may be others, in a method and at a place of its class and side
abbrev pub PartsOf : Type 1
PartsOf = EntryOf Name → Option (Name × Bool) → List Declared → TreeOf Name → TreeOf Name → Type 0

-- and which messages to self may be assignments
abbrev pub StoresOf : Type 1
StoresOf = EntryOf Name → Option (Name × Bool) → List Declared → Name → Name → Type 0

module _ (i : ImageOf Name) (gone : Allowed) (here : PartsOf) (stores : StoresOf) where
  -- a method with some parts that are others
  pub record MethodBecomes (m m' : EntryOf Name) : Type 0 where
    pub class : m.class ≡ m'.class
    pub meta : m.meta ≡ m'.meta
    pub selector : m.tree.selector ≡ m'.tree.selector
    pub primitive : m.tree.primitive ≡ m'.tree.primitive
    pub arguments : m.tree.arguments ≡ m'.tree.arguments
    pub temporaries : m.tree.body.temporaries ≡ m'.tree.body.temporaries
    pub place : Option (Name × Bool)
    pub opens : OptionNames (IsOpen (resolved_image i) gone (resolved_entry i m)) place
    pub statements : BecomeLines (parts_stored (here m place) (stores m place) gone.is_gone) (opened m.tree.arguments m.tree.body.temporaries []) (opened m.tree.arguments m.tree.body.temporaries []) m.tree.body.statements m'.tree.body.statements

  -- methods in order; some may be missing after
  pub data MethodsBecome : List (EntryOf Name) → List (EntryOf Name) → Type 0 where
    methods_end : MethodsBecome [] []
    method_next : {m m' : EntryOf Name} {ms ms' : List (EntryOf Name)} → MethodBecomes m m' → MethodsBecome ms ms' → MethodsBecome (m ∷ ms) (m' ∷ ms')
    method_gone : {m : EntryOf Name} {ms ms' : List (EntryOf Name)} → gone.is_gone m.tree.selector ≡ true → MethodsBecome ms ms' → MethodsBecome (m ∷ ms) ms'

  -- do-its that stay
  pub data DoItsStay : List (DoItOf Name) → List (DoItOf Name) → Type 0 where
    doits_end : DoItsStay [] []
    doit_next : {d d' : DoItOf Name} {ds ds' : List (DoItOf Name)} → d.body ≡ d'.body → StatementsSendOnly (λ s. gone.is_gone s ≡ false) d.body.statements → DoItsStay ds ds' → DoItsStay (d ∷ ds) (d' ∷ ds')

  -- an image with the same classes and do-its, and with such methods
  pub record ImageBecomes (j : ImageOf Name) : Type 0 where
    pub classes : i.classes ≡ j.classes
    pub methods : MethodsBecome i.methods j.methods
    pub doits : DoItsStay i.doits j.doits
