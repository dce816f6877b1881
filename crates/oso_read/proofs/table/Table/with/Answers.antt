use Rattle.std.proofs.Common.{◌≡◌, ◌∙◌, ◌++◌, ◌∷◌, [], List, ℕ, true, sym, ap, arith, rules}
use Rattle.std.specs.List.{list_any}
use Rattle.std.specs.Str.{bytes_eq}
use Rattle.oso_code.specs.Symbols.{are_parameters, is_taken, symbol_fits}
use Rattle.oso_code.specs.Valid.{slots_of}
use Rattle.oso_read.specs.SymbolNames.{names_of}
use Rattle.oso_read.proofs.Named.{taken, names_more, slots_more, leads_more, absent_where_fits, room_parts}
use Rattle.oso_read.proofs.table.Table.with.Goals as goal

pub push-requires : goal.push-requires
push-requires c =
    let symbols = c.args.self.symbols.items in
    let name = c.args.symbol.name in
    let fits : c.fits.result ≡ true = search rules in
    ap (λ (n : List ℕ). list_any (bytes_eq n) c.args.self.names) c.bytes.ensures.value ∙ ap (λ (names : List (List ℕ)). list_any (bytes_eq name) names) c.args.self.named
    ∙ taken symbols name ∙ absent_where_fits (symbol_fits (are_parameters symbols) c.args.symbol) (is_taken symbols name) c.fits.result c.fits.ensures fits

pub invariant_of-result : goal.invariant_of-result
invariant_of-result c =
    let symbols = c.args.self.symbols.items in
    let symbol = c.args.symbol in
    let items : c.push-2.new.self.items ≡ symbols ++ symbol ∷ [] = c.in_ok-push-2.ensures.items in
    let has : c.has_room.result ≡ true = search rules in
    let room = room_parts symbols symbol.ty (sym c.has_room.ensures ∙ has) in
    let slots = ap slots_of items ∙ slots_more symbols symbol in
    record {
      named = names_more symbols symbol c.args.self.names c.push.new.self c.bytes.result.now c.args.self.named c.in_ok-push.ensures c.bytes.ensures.value ∙ ap names_of (sym items);
      counted = omega (arith, slots, c.slot_count.ensures.value, c.args.self.counted);
      few = omega (arith, room.0, c.push-2.ensures.len);
      small = omega (arith, room.1, c.slot_count.ensures.value, c.args.self.counted);
      leads = c.leads-leading.ensures ∙ sym (leads_more symbols symbol) ∙ ap are_parameters (sym items);
    }
