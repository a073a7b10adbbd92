use Rattle.np_log.proofs.Prelude.{IfSome, IsSettled, LeavesOnly, SaysFirst, content_of, content_with, length, option_map, take, ◌+◌, ◌-◌, ◌≡◌, ◌≤◌}
use Rattle.np_log.proofs.log.Log.append_all.Given as goal

abbrev pub invariant-loop-at : goal.invariant-loop-at
invariant-loop-at g l = record {
  within : l.at ≤ length l.events;
  count : l.log.events ≡ l.fn.self.events + l.at;
  settled : IsSettled (g.D.Disk.facts l.disk) l.log;
  content : option_map content_of (g.D.Disk.facts l.disk).now ≡ option_map (λ file. content_with (content_of file) (take l.at l.events)) (g.D.Disk.facts l.fn.disk).now;
  any_moment : IfSome (g.D.Disk.facts l.fn.disk).now (λ file. LeavesOnly (g.D.Disk.facts l.fn.disk) (g.D.Disk.facts l.disk) (SaysFirst (content_of file) l.events));
  later : (g.D.Disk.facts l.fn.disk).faults ≤ (g.D.Disk.facts l.disk).faults;
}

abbrev pub decreases-loop-at : goal.decreases-loop-at
decreases-loop-at g l = length l.events - l.at
