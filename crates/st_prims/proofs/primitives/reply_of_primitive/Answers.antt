use Rattle.std.proofs.Common.{◌∙◌, ap, sym}
use Rattle.prim_calls.specs.Calls.{call_of}
use Rattle.st_prims.specs.Closures.{world_of}
use Rattle.st_prims.specs.Rows.{row_of}
use Rattle.st_prims.proofs.Doing.{mapped}
use Rattle.st_prims.proofs.primitives.reply_of_primitive.Goals as goal

pub returns-in-Same : goal.returns-in-Same
returns-in-Same c =
    let w = world_of c.args.closures.now c.args.image.now in
    mapped c.is_same.result (λ r p. p w ∙ ap (λ q. row_of q (call_of w c.args.call.now)) (sym c.in-Same.is)) c.is_same.ensures

pub returns-in-Class : goal.returns-in-Class
returns-in-Class c =
    let w = world_of c.args.closures.now c.args.image.now in
    mapped c.gives_class.result (λ r p. p w ∙ ap (λ q. row_of q (call_of w c.args.call.now)) (sym c.in-Class.is)) c.gives_class.ensures

pub returns-in-KindOf : goal.returns-in-KindOf
returns-in-KindOf c =
    let w = world_of c.args.closures.now c.args.image.now in
    c.is_kind_of.ensures c.args.closures.now ∙ ap (λ q. row_of q (call_of w c.args.call.now)) (sym c.in-KindOf.is)

pub returns-in-Copy : goal.returns-in-Copy
returns-in-Copy c =
    let w = world_of c.args.closures.now c.args.image.now in
    mapped c.copies.result (λ r p. p w ∙ ap (λ q. row_of q (call_of w c.args.call.now)) (sym c.in-Copy.is)) c.copies.ensures

pub returns-in-Error : goal.returns-in-Error
returns-in-Error c =
    let w = world_of c.args.closures.now c.args.image.now in
    mapped c.raises_error.result (λ r p. p w ∙ ap (λ q. row_of q (call_of w c.args.call.now)) (sym c.in-Error.is)) c.raises_error.ensures

pub returns-in-Reflective : goal.returns-in-Reflective
returns-in-Reflective c =
    let w = world_of c.args.closures.now c.args.image.now in
    c.is_reflective.ensures w ∙ ap (λ q. row_of q (call_of w c.args.call.now)) (sym c.in-Reflective.is)

pub returns-in-New : goal.returns-in-New
returns-in-New c =
    let w = world_of c.args.closures.now c.args.image.now in
    mapped c.gives_instance.result (λ r p. p w ∙ ap (λ q. row_of q (call_of w c.args.call.now)) (sym c.in-New.is)) c.gives_instance.ensures

pub returns-in-OnIntegers : goal.returns-in-OnIntegers
returns-in-OnIntegers c =
    let w = world_of c.args.closures.now c.args.image.now in
    c.on_integers.ensures w ∙ ap (λ q. row_of q (call_of w c.args.call.now)) (sym c.in-OnIntegers.is)

pub returns-in-PrintInteger : goal.returns-in-PrintInteger
returns-in-PrintInteger c =
    let w = world_of c.args.closures.now c.args.image.now in
    mapped c.prints_integer.result (λ r p. p w ∙ ap (λ q. row_of q (call_of w c.args.call.now)) (sym c.in-PrintInteger.is)) c.prints_integer.ensures

pub returns-in-AsCharacter : goal.returns-in-AsCharacter
returns-in-AsCharacter c =
    let w = world_of c.args.closures.now c.args.image.now in
    c.gives_character.ensures w ∙ ap (λ q. row_of q (call_of w c.args.call.now)) (sym c.in-AsCharacter.is)

pub returns-in-Size : goal.returns-in-Size
returns-in-Size c =
    let w = world_of c.args.closures.now c.args.image.now in
    c.gives_length.ensures w ∙ ap (λ q. row_of q (call_of w c.args.call.now)) (sym c.in-Size.is)

pub returns-in-At : goal.returns-in-At
returns-in-At c =
    let w = world_of c.args.closures.now c.args.image.now in
    mapped c.gives_item.result (λ r p. p w ∙ ap (λ q. row_of q (call_of w c.args.call.now)) (sym c.in-At.is)) c.gives_item.ensures

pub returns-in-AtPut : goal.returns-in-AtPut
returns-in-AtPut c =
    let w = world_of c.args.closures.now c.args.image.now in
    mapped c.stores_item.result (λ r p. p w ∙ ap (λ q. row_of q (call_of w c.args.call.now)) (sym c.in-AtPut.is)) c.stores_item.ensures

pub returns-in-Join : goal.returns-in-Join
returns-in-Join c =
    let w = world_of c.args.closures.now c.args.image.now in
    mapped c.joins.result (λ r p. p w ∙ ap (λ q. row_of q (call_of w c.args.call.now)) (sym c.in-Join.is)) c.joins.ensures

pub returns-in-Part : goal.returns-in-Part
returns-in-Part c =
    let w = world_of c.args.closures.now c.args.image.now in
    mapped c.gives_part.result (λ r p. p w ∙ ap (λ q. row_of q (call_of w c.args.call.now)) (sym c.in-Part.is)) c.gives_part.ensures

pub returns-in-Before : goal.returns-in-Before
returns-in-Before c =
    let w = world_of c.args.closures.now c.args.image.now in
    c.is_text_before.ensures w ∙ ap (λ q. row_of q (call_of w c.args.call.now)) (sym c.in-Before.is)

pub returns-in-AsSymbol : goal.returns-in-AsSymbol
returns-in-AsSymbol c =
    let w = world_of c.args.closures.now c.args.image.now in
    mapped c.symbol_of_string.result (λ r p. p w ∙ ap (λ q. row_of q (call_of w c.args.call.now)) (sym c.in-AsSymbol.is)) c.symbol_of_string.ensures

pub returns-in-PrintString : goal.returns-in-PrintString
returns-in-PrintString c =
    let w = world_of c.args.closures.now c.args.image.now in
    mapped c.prints_string.result (λ r p. p w ∙ ap (λ q. row_of q (call_of w c.args.call.now)) (sym c.in-PrintString.is)) c.prints_string.ensures

pub returns-in-AsString : goal.returns-in-AsString
returns-in-AsString c =
    let w = world_of c.args.closures.now c.args.image.now in
    mapped c.string_of_symbol.result (λ r p. p w ∙ ap (λ q. row_of q (call_of w c.args.call.now)) (sym c.in-AsString.is)) c.string_of_symbol.ensures

pub returns-in-PrintSymbol : goal.returns-in-PrintSymbol
returns-in-PrintSymbol c =
    let w = world_of c.args.closures.now c.args.image.now in
    mapped c.prints_symbol.result (λ r p. p w ∙ ap (λ q. row_of q (call_of w c.args.call.now)) (sym c.in-PrintSymbol.is)) c.prints_symbol.ensures

pub returns-in-NewArray : goal.returns-in-NewArray
returns-in-NewArray c =
    let w = world_of c.args.closures.now c.args.image.now in
    mapped c.gives_array.result (λ r p. p w ∙ ap (λ q. row_of q (call_of w c.args.call.now)) (sym c.in-NewArray.is)) c.gives_array.ensures

pub returns-in-AsByte : goal.returns-in-AsByte
returns-in-AsByte c =
    let w = world_of c.args.closures.now c.args.image.now in
    c.gives_byte.ensures w ∙ ap (λ q. row_of q (call_of w c.args.call.now)) (sym c.in-AsByte.is)

pub returns-in-CharacterString : goal.returns-in-CharacterString
returns-in-CharacterString c =
    let w = world_of c.args.closures.now c.args.image.now in
    mapped c.string_of_character.result (λ r p. p w ∙ ap (λ q. row_of q (call_of w c.args.call.now)) (sym c.in-CharacterString.is)) c.string_of_character.ensures

pub returns-in-PrintCharacter : goal.returns-in-PrintCharacter
returns-in-PrintCharacter c =
    let w = world_of c.args.closures.now c.args.image.now in
    mapped c.prints_character.result (λ r p. p w ∙ ap (λ q. row_of q (call_of w c.args.call.now)) (sym c.in-PrintCharacter.is)) c.prints_character.ensures

pub returns-in-Show : goal.returns-in-Show
returns-in-Show c =
    let w = world_of c.args.closures.now c.args.image.now in
    mapped c.shows.result (λ r p. p w ∙ ap (λ q. row_of q (call_of w c.args.call.now)) (sym c.in-Show.is)) c.shows.ensures

pub returns-in-Print : goal.returns-in-Print
returns-in-Print c =
    let w = world_of c.args.closures.now c.args.image.now in
    mapped c.prints.result (λ r p. p w ∙ ap (λ q. row_of q (call_of w c.args.call.now)) (sym c.in-Print.is)) c.prints.ensures
