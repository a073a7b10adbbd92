use Rattle.np_lookups.proofs.Prelude.{ap, sym, ◌∙◌}
use Rattle.np_lookups.proofs.LineLemmas.{past-there, past-not_there, past-end}
use Rattle.np_lookups.proofs.requests.Open.past.Goals.{else-before-count-via-then-before-count+else-has, else-before-count-via-else-before-count}
use Rattle.np_lookups.proofs.requests.Open.past.Goals as goal

pub returns-then-has : goal.returns-then-has
returns-then-has c site s are =
    past-there c.args.line c.args.rank c.args.self.now.members are.rises c.self.inside.groups.members (ap (λ kept. kept.members) c.self.view_is)
    c.before-before.result c.open_group-group.result c.open_group-group.ensures c.before-before.ensures (sym c.has.ensures ∙ c.if-has.true)

pub returns-else-before-count : goal.returns-else-before-count
returns-else-before-count c site s are = elim c.else-before-count.branch [
  | else-before-count-via-then-before-count+else-has w ↦
      past-not_there c.args.line c.args.rank c.args.self.now.members are.rises c.self.inside.groups.members (ap (λ kept. kept.members) c.self.view_is)
      c.before-before.result c.open_group-group.result c.open_group-group.ensures c.before-before.ensures (sym w.has.ensures ∙ w.if-has.false)
  | else-before-count-via-else-before-count w ↦
      past-end c.args.line c.args.rank c.args.self.now.members are.rises c.self.inside.groups.members (ap (λ kept. kept.members) c.self.view_is)
      c.before-before.result c.open_group-group.result c.open_group-group.ensures c.before-before.ensures c.count.result c.count.ensures w.if-before-count.false
]
