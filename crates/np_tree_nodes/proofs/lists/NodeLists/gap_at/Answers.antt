use Rattle.np_tree_nodes.proofs.Prelude.{sym, ◌++◌}
use Rattle.np_tree_nodes.proofs.PlaceLemmas.{FindsGap-none, FindsGap-other, FindsGap-past, IsGapAt, IsSplit-halves}
use Rattle.np_tree_nodes.proofs.lists.NodeLists.gap_at.Goals as goal

pub place-place-requires : goal.place-place-requires
place-place-requires c = record { split = IsSplit-halves c.args.before.now (c.args.name.now ++ c.args.digits.now) c.args.self.now.nodes c.requires.sorted }

pub returns-in_default : goal.returns-in_default
returns-in_default c = λ path is before name.
    let gap : IsGapAt path c.args.before.now (c.args.name.now ++ c.args.digits.now) c.args.self.now.nodes c.place-place.result = record { is = is; half = before; last = name; place = c.place-place.ensures } in
    FindsGap-past path c.args.before.now (c.args.name.now ++ c.args.digits.now) c.args.self.now.nodes c.place-place.result gap c.requires.sorted (sym c.in_default.ensures)

pub returns-then-stands_there : goal.returns-then-stands_there
returns-then-stands_there c = λ path is before name.
    let gap : IsGapAt path c.args.before.now (c.args.name.now ++ c.args.digits.now) c.args.self.now.nodes c.place-place.result = record { is = is; half = before; last = name; place = c.place-place.ensures } in
    FindsGap-none path c.args.before.now (c.args.name.now ++ c.args.digits.now) c.args.self.now.nodes c.place-place.result c.in-Some.node.now gap c.requires.sorted c.requires.paths (sym c.in-Some.ensures) c.if-stands_there.ensures

pub returns : goal.returns
returns c = λ path is before name.
    let gap : IsGapAt path c.args.before.now (c.args.name.now ++ c.args.digits.now) c.args.self.now.nodes c.place-place.result = record { is = is; half = before; last = name; place = c.place-place.ensures } in
    FindsGap-other path c.args.before.now (c.args.name.now ++ c.args.digits.now) c.args.self.now.nodes c.place-place.result c.in-Some.node.now gap c.requires.sorted (sym c.in-Some.ensures) c.if-stands_there.ensures
