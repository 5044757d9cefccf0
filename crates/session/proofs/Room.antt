-- A log is one of slots with room at the ends too, more names among it, and stands for the same history.
use Rattle.std.proofs.Common.{◌≡◌, ℕ, ◌<◌, ◌≤◌, Bool, true, false, List, [], ◌∷◌, ◌++◌, length, Option, None, slice_get, refl, sym, ap, subst, ◌∙◌, arith}
use Rattle.std.specs.Prelude.{if◌then◌else◌}
use Rattle.std.specs.List.{list_any}
use Rattle.std.specs.Option.{option_map_or}
use Rattle.std.proofs.Math.Dec.{eqb}
use Rattle.std.proofs.lemmas.List.{length-append}
use Rattle.rb_base.specs.Names.{name_at}
use Rattle.st_tree.specs.View.{method_of}
use Rattle.mentions.specs.Mentions.{method_names}
use Rattle.mentions.specs.Listing.{ListsOnce}
use Rattle.image_model.specs.Image.{ImageOf}
use Rattle.image_model.proofs.Lists.{all-implies}
use Rattle.run_model.specs.Values.{Name}
use Rattle.run_model.specs.Renamings.{Renaming, composed}
use Rattle.class_table.specs.declared.record.MethodRec.{MethodRec}
use Rattle.class_table.specs.declared.record.Place.{Place}
use Rattle.class_table.specs.declared.record.Place.TheVariants as place
use Rattle.class_table.specs.Slots.{Slots}
use Rattle.class_table.specs.View.{live_at, image_of}
use Rattle.change_set.specs.Changes.{all_applied}
use Rattle.command_model.specs.Renamings.{one_moved, renaming_of}
use Rattle.rename_model.specs.OneRenamed.{one_temporary}
use Rattle.command_numbers.proofs.Restricted.{CommandNames-implies, map_command-same}
use Rattle.commands.specs.Views.{renaming_command}
use Rattle.image_rewriting.proofs.SameRule.{name-stays}
use Rattle.image_laws.specs.Orders.{HasOrders}
use Rattle.wider_slots.specs.Logs.{CanDoAgain}
use Rattle.wider_slots.specs.Wider.{More, widened, Wider}
use Rattle.wider_slots.proofs.Append.{get-append}
use Rattle.wider_slots.proofs.Orderly.{orderly-wider}
use Rattle.wider_slots.proofs.Widening.{slots-widen}
use Rattle.reference_index.specs.Mentioned.{Mentioned, names_at, kept_of, IsIndexOf, DiffersAtMost}
use Rattle.session.specs.Log.{DoneCommand, Done, Log, taken_back, done_again, CanGoBack, CanGoForth, LeadsBack, LeadsForth, RenamesNames, CommandsKnown, EntriesKnown, IsLogOf}
use Rattle.session.specs.History.{renaming_in, renamed_by, renamed_back, renamed_forth, renaming_at, version_at, versions_before, versions_after, history_of}
use Rattle.session.specs.declared.renames.Renames.{Renames}
use Rattle.session.specs.declared.renames.Renames.TheVariants as renames
use Rattle.session.proofs.Kept.{applied-names, back-names, again-names}

-- the code at a place among further slots
live-still : {X : Type 0} (xs ys : List X) (order : List ℕ) (k : ℕ) → (list_any (eqb k) order ≡ true → k < length xs) → live_at (xs ++ ys) order k ≡ live_at xs order k
live-still {X} xs ys order k below = by (list_any (eqb k) order) refl
  where
    by : (b : Bool) → list_any (eqb k) order ≡ b → (if b then slice_get (xs ++ ys) k else None) ≡ (if b then slice_get xs k else None)
    by true e = get-append xs ys k (below e)
    by false e = refl

names-widened : (more : More) (s : Slots) → HasOrders s → (p : Place) → names_at (widened more s) p ≡ names_at s p
names-widened more s orders (place.Method k) =
    ap (λ (o : Option MethodRec). option_map_or (λ (m : MethodRec). method_names (method_of m.tree)) o []) (live-still s.methods more.methods s.method_order k (orders.methods.below k))
names-widened more s orders (place.DoIt n) = refl

-- there are as many names at least
pub room-names : (s t : Slots) → Wider s t → length s.names ≤ length t.names
room-names s t room =
    let e : length t.names ≡ length (s.names ++ room.more.names) = ap (λ (z : Slots). length z.names) room.state in
    omega (arith, e, length-append s.names room.more.names)

-- code mentions the same names
pub room-mentions : (s t : Slots) → Wider s t → (p : Place) → names_at t p ≡ names_at s p
room-mentions s t room p = ap (λ (z : Slots). names_at z p) room.state ∙ names-widened room.more s room.closed.orders p

-- and the image is the same
pub room-image : (s t : Slots) → Wider s t → image_of t ≡ image_of s
room-image s t room = slots-widen.image s t room

-- the index of slots is that of others whose code mentions the same names
pub index-along : (s t : Slots) (x : Mentioned) → ((p : Place) → names_at t p ≡ names_at s p) → IsIndexOf s x → IsIndexOf t x
index-along s t x same is = λ p. subst (λ (names : List ℕ). ListsOnce names (kept_of x p)) (sym (same p)) (is p)

-- so do their changes
differs-along : (s t u v : Slots) (touched : List Place) → Wider s t → Wider u v → DiffersAtMost s u touched → DiffersAtMost t v touched
differs-along s t u v touched a b differs = λ p no. room-mentions u v b p ∙ differs p no ∙ sym (room-mentions s t a p)

-- names that are known are known among more
pub renames-longer : (m n : ℕ) → m ≤ n → (r : Renames) → RenamesNames (λ k. k < m) r → RenamesNames (λ k. k < n) r
renames-longer m n h renames.Nothing known = tt
renames-longer m n h (renames.Renaming r) known = CommandNames-implies (λ k. k < m) (λ k. k < n) (λ k l. omega (arith, l, h)) (renaming_command r) known
renames-longer m n h (renames.Moved c x d) known = (omega (arith, h, known.0), omega (arith, h, known.1), omega (arith, h, known.2))
renames-longer m n h (renames.Temporary p x y) known = (omega (arith, h, known.0), omega (arith, h, known.1), omega (arith, h, known.2), omega (arith, h, known.3))

pub commands-longer : (m n : ℕ) → m ≤ n → (ds : List DoneCommand) → CommandsKnown m ds → CommandsKnown n ds
commands-longer m n h ds known =
    all-implies (λ (d : DoneCommand). RenamesNames (λ k. k < m) d.renames) (λ (d : DoneCommand). RenamesNames (λ k. k < n) d.renames) (λ d. renames-longer m n h d.renames) ds known

pub entries-longer : (m n : ℕ) → m ≤ n → (es : List Done) → EntriesKnown m es → EntriesKnown n es
entries-longer m n h es known =
    all-implies (λ (e : Done). CommandsKnown m e.commands) (λ (e : Done). CommandsKnown n e.commands) (λ e. commands-longer m n h e.commands) es known

-- a name keeps its text where there are more
module _ (names more : List (List ℕ)) (i : ImageOf Name) where
  abbrev now : ℕ → List ℕ
  now = name_at names

  abbrev later : ℕ → List ℕ
  later = name_at (names ++ more)

  still : (n : ℕ) → n < length names → later n ≡ now n
  still = name-stays names (names ++ more) (record { more = more; grown = refl })

  renaming-still : (r : Renames) → RenamesNames (λ k. k < length names) r → renaming_in (names ++ more) i r ≡ renaming_in names i r
  renaming-still renames.Nothing known = refl
  renaming-still (renames.Renaming r) known =
      ap (renaming_of i) (map_command-same later now (renaming_command r) (CommandNames-implies (λ k. k < length names) (λ k. later k ≡ now k) still (renaming_command r) known))
  renaming-still (renames.Moved c x d) known = λ j. one_moved (still c known.0 j) (still x known.1 j) (still d known.2 j)
  renaming-still (renames.Temporary m x y) known = λ j. one_temporary (still m.class known.0 j) m.meta (still m.selector known.1 j) (still x known.2 j) (still y known.3 j)

-- a command renames the same
pub room-renamed : (s t : Slots) (d : DoneCommand) → Wider s t → RenamesNames (λ k. k < length s.names) d.renames → renamed_by t d ≡ renamed_by s d
room-renamed s t d room known =
    (λ i. renaming_in ((room.state i).names) (room-image s t room i) d.renames) ∙ renaming-still s.names room.more.names (image_of s) d.renames known

-- commands lead back to slots with as much room
pub record BackBoth (s t : Slots) (ds : List DoneCommand) : Type 0 where
  pub can : CanGoBack t ds
  pub room : Wider (taken_back s ds) (taken_back t ds)

pub back-both : (s t : Slots) (ds : List DoneCommand) → Wider s t → CanGoBack s ds → BackBoth s t ds
back-both s t [] room can = record { can = tt; room = room }
back-both s t (d ∷ ds) room can =
    let rest = back-both s t ds room can.0 in
    let u : Slots = taken_back s ds in
    let v : Slots = taken_back t ds in
    record {
      can = (rest.can, slots-widen.can_undo u v d.changes rest.room can.1);
      room = slots-widen.undone u v d.changes rest.room can.1;
    }

record ForthBoth (s t : Slots) (ds : List DoneCommand) : Type 0 where
  pub can : CanGoForth t ds
  pub room : Wider (done_again s ds) (done_again t ds)

again-room : (s t : Slots) (d : DoneCommand) → Wider s t → CanDoAgain s d.changes → Wider (all_applied s d.changes) (all_applied t d.changes)
again-room s t d room can = slots-widen.redone s t d.changes room can

forth-both : (s t : Slots) (ds : List DoneCommand) → Wider s t → CanGoForth s ds → ForthBoth s t ds
forth-both s t [] room can = record { can = tt; room = room }
forth-both s t (d ∷ ds) room can =
    let rest = forth-both (all_applied s d.changes) (all_applied t d.changes) ds (again-room s t d room can.0) can.1 in
    record { can = (slots-widen.can_redo s t d.changes room can.0, rest.can); room = rest.room }

-- and rename the same
pub back-renamed : (s t : Slots) (ds : List DoneCommand) → Wider s t → CanGoBack s ds → CommandsKnown (length s.names) ds → (r : Renaming) → renamed_back t r ds ≡ renamed_back s r ds
back-renamed s t [] room can known r = refl
back-renamed s t (d ∷ ds) room can known r =
    let there = subst (λ (names : List (List ℕ)). RenamesNames (λ k. k < length names) d.renames) (sym (back-names s (d ∷ ds))) known.0 in
    ap (λ (q : Renaming). renamed_back t (composed r q) ds) (room-renamed (taken_back s (d ∷ ds)) (taken_back t (d ∷ ds)) d (back-both s t (d ∷ ds) room can).room there)
    ∙ back-renamed s t ds room can.0 known.1 (composed r (renamed_by (taken_back s (d ∷ ds)) d))

forth-renamed : (s t : Slots) (ds : List DoneCommand) → Wider s t → CanGoForth s ds → CommandsKnown (length s.names) ds → (r : Renaming) → renamed_forth t r ds ≡ renamed_forth s r ds
forth-renamed s t [] room can known r = refl
forth-renamed s t (d ∷ ds) room can known r =
    let there = subst (λ (names : List (List ℕ)). CommandsKnown (length names) ds) (sym (applied-names s d.changes)) known.1 in
    ap (λ (q : Renaming). renamed_forth (all_applied t d.changes) (composed r q) ds) (room-renamed s t d room known.0)
    ∙ forth-renamed (all_applied s d.changes) (all_applied t d.changes) ds (again-room s t d room can.0) can.1 there (composed r (renamed_by s d))

-- actions lead back, and forth
pub room-back : (s t : Slots) (es : List Done) → Wider s t → LeadsBack s es → LeadsBack t es
room-back s t [] room leads = tt
room-back s t (e ∷ es) room leads =
    let both = back-both s t e.commands room leads.0 in (
      both.can,
      differs-along s t (taken_back s e.commands) (taken_back t e.commands) e.touched room both.room leads.1,
      room-back (taken_back s e.commands) (taken_back t e.commands) es both.room leads.2,
    )

pub room-forth : (s t : Slots) (es : List Done) → Wider s t → LeadsForth s es → LeadsForth t es
room-forth s t [] room leads = tt
room-forth s t (e ∷ es) room leads =
    let both = forth-both s t e.commands room leads.0 in (
      both.can,
      differs-along s t (done_again s e.commands) (done_again t e.commands) e.touched room both.room leads.1,
      room-forth (done_again s e.commands) (done_again t e.commands) es both.room leads.2,
    )

-- entries are known in the slots before, and in those behind
pub known-before : (s : Slots) (ds : List DoneCommand) (es : List Done) → EntriesKnown (length s.names) es → EntriesKnown (length (taken_back s ds).names) es
known-before s ds es known = subst (λ (names : List (List ℕ)). EntriesKnown (length names) es) (sym (back-names s ds)) known

pub known-behind : (s : Slots) (ds : List DoneCommand) (es : List Done) → EntriesKnown (length s.names) es → EntriesKnown (length (done_again s ds).names) es
known-behind s ds es known = subst (λ (names : List (List ℕ)). EntriesKnown (length names) es) (sym (again-names s ds)) known

-- and stand for the same versions
room-renaming : (s t : Slots) (es : List Done) → Wider s t → LeadsBack s es → EntriesKnown (length s.names) es → renaming_at t es ≡ renaming_at s es
room-renaming s t [] room leads known = refl
room-renaming s t (e ∷ es) room leads known =
    let both = back-both s t e.commands room leads.0 in
    ap (λ (r : Renaming). renamed_back t r e.commands) (room-renaming (taken_back s e.commands) (taken_back t e.commands) es both.room leads.2 (known-before s e.commands es known.1))
    ∙ back-renamed s t e.commands room leads.0 known.0 (renaming_at (taken_back s e.commands) es)

pub room-version : (s t : Slots) (es : List Done) → Wider s t → LeadsBack s es → EntriesKnown (length s.names) es → version_at t es ≡ version_at s es
room-version s t es room leads known = λ i. record { image = room-image s t room i; renaming = room-renaming s t es room leads known i }

pub room-before : (s t : Slots) (es : List Done) → Wider s t → LeadsBack s es → EntriesKnown (length s.names) es → versions_before t es ≡ versions_before s es
room-before s t [] room leads known = refl
room-before s t (e ∷ es) room leads known =
    let u : Slots = taken_back s e.commands in
    let v : Slots = taken_back t e.commands in
    let both = back-both s t e.commands room leads.0 in
    let there = known-before s e.commands es known.1 in
    λ i. room-version u v es both.room leads.2 there i ∷ room-before u v es both.room leads.2 there i

room-after : (s t : Slots) (r q : Renaming) (es : List Done) → Wider s t → q ≡ r → LeadsForth s es → EntriesKnown (length s.names) es → versions_after t q es ≡ versions_after s r es
room-after s t r q [] room same leads known = refl
room-after s t r q (e ∷ es) room same leads known =
    let u : Slots = done_again s e.commands in
    let v : Slots = done_again t e.commands in
    let both = forth-both s t e.commands room leads.0 in
    let renamed : renamed_forth t q e.commands ≡ renamed_forth s r e.commands = forth-renamed s t e.commands room leads.0 known.0 q ∙ ap (λ (z : Renaming). renamed_forth s z e.commands) same in
    λ i. record { image = room-image u v both.room i; renaming = renamed i }
    ∷ room-after u v (renamed_forth s r e.commands) (renamed_forth t q e.commands) es both.room renamed leads.2 (known-behind s e.commands es known.1) i

-- the log, and its history
pub room-log : (s t : Slots) (log : Log) → Wider s t → IsLogOf s log → IsLogOf t log
room-log s t log room is = record {
  closed = room.still;
  orderly = orderly-wider s t room is.orderly;
  index = record { former = is.index.former; index_of = is.index.index_of; differs = λ p no. room-mentions s t room p ∙ is.index.differs p no };
  back = room-back s t log.back room is.back;
  forth = room-forth s t log.forth room is.forth;
  back_known = entries-longer (length s.names) (length t.names) (room-names s t room) log.back is.back_known;
  forth_known = entries-longer (length s.names) (length t.names) (room-names s t room) log.forth is.forth_known;
}

pub room-history : (s t : Slots) (log : Log) → Wider s t → IsLogOf s log → history_of t log ≡ history_of s log
room-history s t log room is = λ i. record {
  earlier = room-before s t log.back room is.back is.back_known i;
  now = room-version s t log.back room is.back is.back_known i;
  later = room-after s t (renaming_at s log.back) (renaming_at t log.back) log.forth room (room-renaming s t log.back room is.back is.back_known) is.forth is.forth_known i;
}
