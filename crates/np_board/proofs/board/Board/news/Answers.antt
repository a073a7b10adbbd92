use Rattle.np_board.proofs.Prelude.{HasNoNews, IsPlanning, List, None, Option, Outstanding, Planning, Some, TakenNews, TreeState, ap, fired_spot, is_fired, plan_of, planning_of, remove_first, subst, sym, told_by, with_plan, ◌∙◌, ◌≡◌}
use Rattle.np_board.proofs.BoardTurns.{news-taken, no-plan-news, plan-out, planning-news, planning-with, with-twice}
use Rattle.np_board.proofs.board.Board.news.Goals.{After-told_by}
use Rattle.np_board.proofs.board.Board.news.Goals as goal

pub invariant_of-self : goal.invariant_of-self
invariant_of-self c = (
  c.self.invariant.0,
  rw c.take.ensures.rest (planning-with (planning_of c.self.inside.machine c.self.inside.commits c.self.inside.plans) c.args.pool None c.self.invariant.1 (λ x is. absurd cc)),
)

pub returns-in_default : goal.returns-in_default
returns-in_default c =
    let m : Planning = planning_of c.self.inside.machine c.self.inside.commits c.self.inside.plans in
    let new : Planning = planning_of c.self.inside.machine c.self.inside.commits c.take.new.self in
    subst (λ (old : Planning). HasNoNews old c.args.pool × (new ≡ old)) c.self.view_is
    (no-plan-news m new c.args.pool (sym c.in_default.ensures.plan) (ap (λ (plans : List (Option Outstanding)). planning_of c.self.inside.machine c.self.inside.commits plans) c.take.ensures.rest))

-- the plan was put back with one watch less
less : (c : After-told_by) → c.put.new.self ≡ with_plan c.args.pool (Some (record c.in-Some.watched { watches = remove_first (is_fired c.self.inside.machine.store) c.in-Some.watched.watches })) (with_plan c.args.pool None c.self.inside.plans)
less c =
    let tree : c.tree.result.now ≡ c.self.inside.machine.store = c.tree.ensures ∙ c.store.ensures.same in
    let rest : c.take_news-news.new.watched ≡ record c.in-Some.watched { watches = remove_first (is_fired c.self.inside.machine.store) c.in-Some.watched.watches } =
    subst (λ (t : TreeState). c.take_news-news.new.watched ≡ record c.in-Some.watched { watches = remove_first (is_fired t) c.in-Some.watched.watches }) tree c.take_news-news.ensures.rest in
    c.put.ensures
    ∙ (ap (λ (x : Outstanding). with_plan c.args.pool (Some x) c.take.new.self) rest
    ∙ ap (λ (plans : List (Option Outstanding)). with_plan c.args.pool (Some (record c.in-Some.watched { watches = remove_first (is_fired c.self.inside.machine.store) c.in-Some.watched.watches })) plans) c.take.ensures.rest)

pub invariant_of-self-2 : goal.invariant_of-self-2
invariant_of-self-2 c = (
  c.self.invariant.0,
  let m : Planning = planning_of c.self.inside.machine c.self.inside.commits c.self.inside.plans in
      let x = c.in-Some.watched in
      let is = less c ∙ with-twice c.args.pool None (Some (record x { watches = remove_first (is_fired c.self.inside.machine.store) x.watches })) c.self.inside.plans in
      subst (λ (plans : List (Option Outstanding)). IsPlanning (planning_of c.self.inside.machine c.self.inside.commits plans)) (sym is)
      (planning-news m c.args.pool x c.self.invariant.1 (sym c.in-Some.ensures.plan)),
)

pub returns : goal.returns
returns c =
    let m : Planning = planning_of c.self.inside.machine c.self.inside.commits c.self.inside.plans in
    let new : Planning = planning_of c.self.inside.machine c.self.inside.commits c.put.new.self in
    let x = c.in-Some.watched in
    let tree : c.tree.result.now ≡ c.self.inside.machine.store = c.tree.ensures ∙ c.store.ensures.same in
    let there : plan_of c.args.pool c.self.inside.plans ≡ Some x = sym c.in-Some.ensures.plan in
    let fired : c.take_news-news.result ≡ fired_spot m.tree x = subst (λ (t : TreeState). c.take_news-news.result ≡ fired_spot t x) tree c.take_news-news.ensures.spot in
    let taken : TakenNews m c.args.pool (told_by c.take_news-news.result) new = news-taken m c.args.pool x there c.take_news-news.result new (plan-out m c.args.pool x c.self.invariant.1 there).watches fired (ap (λ (plans : List (Option Outstanding)). planning_of c.self.inside.machine c.self.inside.commits plans) (less c)) in
    rw c.told_by.ensures (subst (λ (k : Planning). TakenNews k c.args.pool (told_by c.take_news-news.result) new) c.self.view_is taken)
