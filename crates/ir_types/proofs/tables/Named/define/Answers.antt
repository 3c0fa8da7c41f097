use Rattle.std.proofs.Common.{sym, ◌∙◌, ap, map, ◌++◌, ◌∷◌, [], ◌≡◌, None}
use Rattle.std.specs.Str.{bytes_eq}
use Rattle.std.specs.Map.{lookup}
use Rattle.ir_types.specs.Tables.{target_named}
use Rattle.ir_types.proofs.Lookups.{lookup_by, new_last, map_last, put_new, is_none}
use Rattle.ir_types.proofs.tables.Named.define.Goals as goal

pub returns : goal.returns
returns c =
    let es = c.self.inside.targets.entries in
    let name = c.args.name.now in
    let none = is_none name c.args.self.now c.find.result c.is_some.result c.find.ensures c.is_some.ensures c.if-is_some.false in
    let items = c.in_ok-key.ensures.items in
    let fresh = ap (λ n. lookup (λ k. bytes_eq n k.items) es) items ∙ sym (lookup_by (λ v. v.items) (bytes_eq name) es) ∙ ap (target_named name) c.self.view_is ∙ none in
    let last = ap (map (λ e. (e.0.items, e.1))) (c.in_ok-insert.ensures.entries ∙ new_last _ c.self.inside.targets c.in_ok-key.key c.args.target fresh) ∙ map_last (λ e. (e.0.items, e.1)) es (c.in_ok-key.key, c.args.target) ∙ ap (λ n. map (λ e. (e.0.items, e.1)) es ++ (n, c.args.target) ∷ []) items ∙ ap (λ all. all ++ (name, c.args.target) ∷ []) c.self.view_is in
    put_new name c.args.target c.args.self.now _ c.find.result c.is_some.result c.find.ensures c.is_some.ensures c.if-is_some.false last
