-- What words are read as: the command that they are, and no other.
use Rattle.std.proofs.Common.{◌≡◌, ℕ, ◌+◌, ◌-◌, ◌<◌, ◌≤◌, ◌^◌, List, [], ◌∷◌, length, Bool, true, false, if◌then◌else◌, nat_le, Option, Some, None, codes, inl, inr, refl, sym, ap, subst, ◌∙◌, arith}
use Rattle.std.specs.List.{AllByRecursion}
use Rattle.std.proofs.lemmas.Bool.Decides.{nat_tests}
use Rattle.hk_base.specs.declared.time.TheConstants.{MAX_TIME}
use Rattle.hk_storm.specs.declared.opts.StormOpts.{StormOpts}
use Rattle.hk_group.specs.declared.group.Group.{Group}
use Rattle.hk_process.specs.declared.process.Process.{Process}
use Rattle.hk_cli.specs.declared.words.Command.{Command}
use Rattle.hk_cli.specs.declared.words.Command.TheVariants.{Drill, Joint, Generate, Storm, Serve, Peer, Watch, JointStorm}
use Rattle.hk_cli.specs.Words.{Given, option, IsGenerate, IsStorm, IsServe, IsPeer, IsWatch, IsJointStorm, IsCommand, IsCommandRead, WordsTellCommands}
use Rattle.hk_cli.specs.Options.{option_count, option_is, value_of, ranged, generate_of, storm_of, serve_of, peer_of, watch_of, joint_storm_of, alone, command_of, group_of, process_of}
use Rattle.hk_script.specs.Parts.{is_text}
use Rattle.hk_script.proofs.Choices.{chosen, held, bind_some, some_same, no_some, text_is}
use Rattle.hk_cli.proofs.Orders.{AreApart, IsNamed, first_of, order_all, order_found, order_length, found_order, are_read, are_again}

-- ---- options
abbrev wanted : ℕ → ℕ → ℕ → List Given
wanted s c n = option (codes "start") s ∷ option (codes "count") c ∷ option (codes "nodes") n ∷ []

apart : (s c n : ℕ) → AreApart (wanted s c n)
apart s c n = (((refl, refl), ((refl, refl), tt)), (((refl, refl), tt), (tt, tt)))

named : (s c n : ℕ) → s < 2 ^ 64 → c < 2 ^ 64 → n < 2 ^ 64 → AllByRecursion IsNamed (wanted s c n)
named s c n a b d = ((refl, a), ((refl, b), ((refl, d), tt)))

counted : (o : Option ℕ) (n : ℕ) → option_is n o ≡ true → o ≡ Some n
counted None n e = absurd (no_bool e)
  where
    no_bool : false ≡ true → ⊥
    no_bool e = cc
counted (Some m) n e = let is : m ≡ n = grind (arith, nat_tests, e) in ap (λ k. Some k) is

-- a value in its range
ranged_takes : (least most : ℕ) (o : Option ℕ) (v : ℕ) → ranged least most o ≡ Some v → (o ≡ Some v) × (least ≤ v) × (v ≤ most)
unfolding ranged
ranged_takes least most None v e = absurd (no_some v e)
ranged_takes least most (Some n) v e =
    let a = held (nat_le least n) _ v e in
    let b = held (nat_le n most) _ v a.1 in
    let is : n ≡ v = some_same n v b.1 in
    let low : least ≤ n = (let t = a.0 in grind (arith, nat_tests, t)) in
    let high : n ≤ most = (let t = b.0 in grind (arith, nat_tests, t)) in
    (ap (λ k. Some k) is, omega (arith, is, low), omega (arith, is, high))

ranged_again : (least most v : ℕ) → least ≤ v → v ≤ most → ranged least most (Some v) ≡ Some v
unfolding ranged
ranged_again least most v low high =
    let a : nat_le least v ≡ true = grind (arith, nat_tests) in
    let b : nat_le v most ≡ true = grind (arith, nat_tests) in
    rw (a, b) refl

small_at : (b : Bool) (m v : ℕ) (o : Option ℕ) → m < 2 ^ 64 → (o ≡ Some v → v < 2 ^ 64) → (if b then Some m else o) ≡ Some v → v < 2 ^ 64
small_at true m v o small rest e = subst (λ k. k < 2 ^ 64) (some_same m v e) small
small_at false m v o small rest e = rest e

small_of : (name : List ℕ) (given : List Given) (v : ℕ) → AllByRecursion (λ g. g.amount < 2 ^ 64) given → first_of name given ≡ Some v → v < 2 ^ 64
small_of name [] v small e = absurd (no_some v e)
small_of name (g ∷ given) v small e = small_at (is_text g.name name) g.amount v (first_of name given) small.0 (small_of name given v small.1) e

-- ---- generate
generate_takes : (words : List (List ℕ)) (command : Command) → generate_of words ≡ Some command → IsCommand command (codes "generate" ∷ words)
unfolding generate_of
generate_takes words command e =
    let n = length words in
    let three = held (option_is 3 (option_count n words)) _ command e in
    let s = bind_some (value_of (codes "start") n words) _ command three.1 in
    let c = bind_some (ranged 1 100000 (value_of (codes "count") n words)) _ command s.2 in
    let d = bind_some (ranged 1 16 (value_of (codes "nodes") n words)) _ command c.2 in
    let is : Generate s.0 c.0 d.0 ≡ command = some_same _ command d.2 in
    let read = are_read n words 3 (counted (option_count n words) 3 three.0) in
    let cs = ranged_takes 1 100000 _ c.0 c.1 in
    let ds = ranged_takes 1 16 _ d.0 d.1 in
    let a : first_of (codes "start") read.given ≡ Some s.0 = sym (read.values (codes "start")) ∙ s.1 in
    let b : first_of (codes "count") read.given ≡ Some c.0 = sym (read.values (codes "count")) ∙ cs.0 in
    let f : first_of (codes "nodes") read.given ≡ Some d.0 = sym (read.values (codes "nodes")) ∙ ds.0 in
    let order = found_order (wanted s.0 c.0 d.0) read.given (apart s.0 c.0 d.0) read.many (a, (b, (f, tt))) in
    subst (λ (k : Command). IsCommand k (codes "generate" ∷ words)) is (
      words,
      refl,
      record {
        start_fits = small_of (codes "start") read.given s.0 read.small a;
        some_events = cs.1;
        few_events = cs.2;
        some_nodes = ds.1;
        few_nodes = ds.2;
        options = (read.given, order, read.are);
      },
    )

generate_again : (s c n : ℕ) (words : List (List ℕ)) → IsGenerate s c n words → generate_of words ≡ Some (Generate s c n)
unfolding generate_of
generate_again s c n words is =
    let order = is.options.1 in
    let few = is.few_events in
    let little = is.few_nodes in
    let all = order_all IsNamed (wanted s c n) is.options.0 order (named s c n is.start_fits (omega (arith, few)) (omega (arith, little))) in
    let again = are_again (length words) is.options.0 words (omega arith) all is.options.2 in
    let found = order_found (wanted s c n) is.options.0 (apart s c n) order in
    let three : option_is 3 (option_count (length words) words) ≡ true = ap (option_is 3) (again.counted ∙ ap (λ k. Some k) (order_length (wanted s c n) is.options.0 order)) in
    let a = again.values (codes "start") ∙ found.0 in
    let b = ap (ranged 1 100000) (again.values (codes "count") ∙ found.1.0) ∙ ranged_again 1 100000 c is.some_events is.few_events in
    let d = ap (ranged 1 16) (again.values (codes "nodes") ∙ found.1.1.0) ∙ ranged_again 1 16 n is.some_nodes is.few_nodes in
    rw three (rw (a, b, d) refl)

-- ---- storm
abbrev stormed : ℕ → ℕ → ℕ → ℕ → List Given
stormed s n w c = option (codes "start") s ∷ option (codes "nodes") n ∷ option (codes "workers") w ∷ option (codes "calls") c ∷ []

stormed_apart : (s n w c : ℕ) → AreApart (stormed s n w c)
stormed_apart s n w c = (((refl, refl), ((refl, refl), ((refl, refl), tt))), (((refl, refl), ((refl, refl), tt)), (((refl, refl), tt), (tt, tt))))

stormed_named : (s n w c : ℕ) → s < 2 ^ 64 → n < 2 ^ 64 → w < 2 ^ 64 → c < 2 ^ 64 → AllByRecursion IsNamed (stormed s n w c)
stormed_named s n w c a b d e = ((refl, a), ((refl, b), ((refl, d), ((refl, e), tt))))

storm_takes : (words : List (List ℕ)) (command : Command) → storm_of words ≡ Some command → IsCommand command (codes "storm" ∷ words)
unfolding storm_of
storm_takes words command e =
    let k = length words in
    let four = held (option_is 4 (option_count k words)) _ command e in
    let s = bind_some (value_of (codes "start") k words) _ command four.1 in
    let n = bind_some (ranged 1 8 (value_of (codes "nodes") k words)) _ command s.2 in
    let w = bind_some (ranged 1 8 (value_of (codes "workers") k words)) _ command n.2 in
    let c = bind_some (ranged 1 20000 (value_of (codes "calls") k words)) _ command w.2 in
    let is : Storm (record { start = s.0; nodes = n.0; workers = w.0; calls = c.0 }) ≡ command = some_same _ command c.2 in
    let read = are_read k words 4 (counted (option_count k words) 4 four.0) in
    let ns = ranged_takes 1 8 _ n.0 n.1 in
    let ws = ranged_takes 1 8 _ w.0 w.1 in
    let cs = ranged_takes 1 20000 _ c.0 c.1 in
    let at : (name : List ℕ) (v : ℕ) → value_of name k words ≡ Some v → first_of name read.given ≡ Some v = λ name v h. sym (read.values name) ∙ h in
    let a = at (codes "start") s.0 s.1 in
    let order = found_order (stormed s.0 n.0 w.0 c.0) read.given (stormed_apart s.0 n.0 w.0 c.0) read.many (
      a,
      (at (codes "nodes") n.0 ns.0, (at (codes "workers") w.0 ws.0, (at (codes "calls") c.0 cs.0, tt))),
    ) in
    subst (λ (o : Command). IsCommand o (codes "storm" ∷ words)) is (
      words,
      refl,
      record {
        start_fits = small_of (codes "start") read.given s.0 read.small a;
        some_nodes = ns.1;
        few_nodes = ns.2;
        some_workers = ws.1;
        few_workers = ws.2;
        some_calls = cs.1;
        few_calls = cs.2;
        options = (read.given, order, read.are);
      },
    )

storm_again : (opts : StormOpts) (words : List (List ℕ)) → IsStorm opts words → storm_of words ≡ Some (Storm opts)
unfolding storm_of
storm_again opts words is =
    let listed = stormed opts.start opts.nodes opts.workers opts.calls in
    let order = is.options.1 in
    let ns = is.few_nodes in
    let ws = is.few_workers in
    let cs = is.few_calls in
    let apart = stormed_apart opts.start opts.nodes opts.workers opts.calls in
    let names = stormed_named opts.start opts.nodes opts.workers opts.calls is.start_fits (omega (arith, ns)) (omega (arith, ws)) (omega (arith, cs)) in
    let all = order_all IsNamed listed is.options.0 order names in
    let again = are_again (length words) is.options.0 words (omega arith) all is.options.2 in
    let found = order_found listed is.options.0 apart order in
    let four : option_is 4 (option_count (length words) words) ≡ true = ap (option_is 4) (again.counted ∙ ap (λ k. Some k) (order_length listed is.options.0 order)) in
    let start = again.values (codes "start") ∙ found.0 in
    let nodes = ap (ranged 1 8) (again.values (codes "nodes") ∙ found.1.0) ∙ ranged_again 1 8 opts.nodes is.some_nodes ns in
    let workers = ap (ranged 1 8) (again.values (codes "workers") ∙ found.1.1.0) ∙ ranged_again 1 8 opts.workers is.some_workers ws in
    let calls = ap (ranged 1 20000) (again.values (codes "calls") ∙ found.1.1.1.0) ∙ ranged_again 1 20000 opts.calls is.some_calls cs in
    rw four (rw (start, nodes, workers, calls) refl)

-- ---- serve
abbrev asked : Group → List Given
asked g = option (codes "nodes") g.nodes ∷ option (codes "workers") g.workers ∷ option (codes "managers") g.managers ∷ option (codes "lease") g.lease ∷ option (codes "skew") g.skew
    ∷ option (codes "port") g.port ∷ option (codes "conns") g.conns ∷ []

asked_apart : (g : Group) → AreApart (asked g)
asked_apart g = (
  ((refl, refl), ((refl, refl), ((refl, refl), ((refl, refl), ((refl, refl), ((refl, refl), tt)))))),
  (
    ((refl, refl), ((refl, refl), ((refl, refl), ((refl, refl), ((refl, refl), tt))))),
    (
      ((refl, refl), ((refl, refl), ((refl, refl), ((refl, refl), tt)))),
      (((refl, refl), ((refl, refl), ((refl, refl), tt))), (((refl, refl), ((refl, refl), tt)), (((refl, refl), tt), (tt, tt)))),
    ),
  ),
)

asked_named : (g : Group) (words : List (List ℕ)) → IsServe g words → AllByRecursion IsNamed (asked g)
asked_named g words is =
    let n = is.few_nodes in
    let w = is.few_workers in
    let m = is.few_managers in
    let l = is.lease_fits in
    let e = is.skew_fits in
    let p = is.port_fits in
    let c = is.few_conns in (
      (refl, omega (arith, n)),
      ((refl, omega (arith, w)), ((refl, omega (arith, m)), ((refl, omega (arith, l)), ((refl, omega (arith, e)), ((refl, omega (arith, p)), ((refl, omega (arith, c)), tt)))))),
    )

serve_takes : (words : List (List ℕ)) (command : Command) → serve_of words ≡ Some command → IsCommand command (codes "serve" ∷ words)
unfolding serve_of
serve_takes words command e =
    let k = length words in
    let seven = held (option_is 7 (option_count k words)) _ command e in
    let n = bind_some (ranged 1 16 (value_of (codes "nodes") k words)) _ command seven.1 in
    let w = bind_some (ranged 1 8 (value_of (codes "workers") k words)) _ command n.2 in
    let m = bind_some (ranged 0 9 (value_of (codes "managers") k words)) _ command w.2 in
    let l = bind_some (ranged 0 MAX_TIME (value_of (codes "lease") k words)) _ command m.2 in
    let s = bind_some (ranged 0 MAX_TIME (value_of (codes "skew") k words)) _ command l.2 in
    let p = bind_some (ranged 1 65535 (value_of (codes "port") k words)) _ command s.2 in
    let c = bind_some (ranged 1 1000000 (value_of (codes "conns") k words)) _ command p.2 in
    let g : Group = group_of n.0 w.0 m.0 l.0 s.0 p.0 c.0 in
    let is : Serve g ≡ command = some_same _ command c.2 in
    let read = are_read k words 7 (counted (option_count k words) 7 seven.0) in
    let ns = ranged_takes 1 16 _ n.0 n.1 in
    let ws = ranged_takes 1 8 _ w.0 w.1 in
    let ms = ranged_takes 0 9 _ m.0 m.1 in
    let ls = ranged_takes 0 MAX_TIME _ l.0 l.1 in
    let ss = ranged_takes 0 MAX_TIME _ s.0 s.1 in
    let ps = ranged_takes 1 65535 _ p.0 p.1 in
    let cs = ranged_takes 1 1000000 _ c.0 c.1 in
    let at : (name : List ℕ) (v : ℕ) → value_of name k words ≡ Some v → first_of name read.given ≡ Some v = λ name v h. sym (read.values name) ∙ h in
    let order = found_order (asked g) read.given (asked_apart g) read.many (
      at (codes "nodes") n.0 ns.0,
      (
        at (codes "workers") w.0 ws.0,
        (
          at (codes "managers") m.0 ms.0,
          (
            at (codes "lease") l.0 ls.0,
            (
              at (codes "skew") s.0 ss.0,
              (
                at (codes "port") p.0 ps.0,
                (at (codes "conns") c.0 cs.0, tt),
              ),
            ),
          ),
        ),
      ),
    ) in
    subst (λ (o : Command). IsCommand o (codes "serve" ∷ words)) is (
      words,
      refl,
      record {
        some_nodes = ns.1;
        few_nodes = ns.2;
        some_workers = ws.1;
        few_workers = ws.2;
        few_managers = ms.2;
        lease_fits = ls.2;
        skew_fits = ss.2;
        some_port = ps.1;
        port_fits = ps.2;
        some_conns = cs.1;
        few_conns = cs.2;
        options = (read.given, order, read.are);
      },
    )

serve_again : (g : Group) (words : List (List ℕ)) → IsServe g words → serve_of words ≡ Some (Serve g)
unfolding serve_of
serve_again g words is =
    let order = is.options.1 in
    let all = order_all IsNamed (asked g) is.options.0 order (asked_named g words is) in
    let again = are_again (length words) is.options.0 words (omega arith) all is.options.2 in
    let found = order_found (asked g) is.options.0 (asked_apart g) order in
    let seven : option_is 7 (option_count (length words) words) ≡ true = ap (option_is 7) (again.counted ∙ ap (λ k. Some k) (order_length (asked g) is.options.0 order)) in
    let nodes = ap (ranged 1 16) (again.values (codes "nodes") ∙ found.0) ∙ ranged_again 1 16 g.nodes is.some_nodes is.few_nodes in
    let workers = ap (ranged 1 8) (again.values (codes "workers") ∙ found.1.0) ∙ ranged_again 1 8 g.workers is.some_workers is.few_workers in
    let managers = ap (ranged 0 9) (again.values (codes "managers") ∙ found.1.1.0) ∙ ranged_again 0 9 g.managers (omega arith) is.few_managers in
    let lease = ap (ranged 0 MAX_TIME) (again.values (codes "lease") ∙ found.1.1.1.0) ∙ ranged_again 0 MAX_TIME g.lease (omega arith) is.lease_fits in
    let skew = ap (ranged 0 MAX_TIME) (again.values (codes "skew") ∙ found.1.1.1.1.0) ∙ ranged_again 0 MAX_TIME g.skew (omega arith) is.skew_fits in
    let port = ap (ranged 1 65535) (again.values (codes "port") ∙ found.1.1.1.1.1.0) ∙ ranged_again 1 65535 g.port is.some_port is.port_fits in
    let conns = ap (ranged 1 1000000) (again.values (codes "conns") ∙ found.1.1.1.1.1.1.0) ∙ ranged_again 1 1000000 g.conns is.some_conns is.few_conns in
    rw seven (rw (nodes, workers, managers, lease, skew, port, conns) refl)

-- ---- peer
abbrev met : Process → List Given
met p = option (codes "id") p.id ∷ option (codes "nodes") p.nodes ∷ option (codes "workers") p.workers ∷ option (codes "port") p.port ∷ option (codes "conns") p.conns ∷ []

met_apart : (p : Process) → AreApart (met p)
met_apart p = (
  ((refl, refl), ((refl, refl), ((refl, refl), ((refl, refl), tt)))),
  (((refl, refl), ((refl, refl), ((refl, refl), tt))), (((refl, refl), ((refl, refl), tt)), (((refl, refl), tt), (tt, tt)))),
)

met_named : (p : Process) (words : List (List ℕ)) → IsPeer p words → AllByRecursion IsNamed (met p)
met_named p words is =
    let i = is.id_below in
    let n = is.few_nodes in
    let w = is.few_workers in
    let f = is.ports_fit in
    let c = is.few_conns in (
      (refl, omega (arith, i, n)),
      ((refl, omega (arith, n)), ((refl, omega (arith, w)), ((refl, omega (arith, f)), ((refl, omega (arith, c)), tt)))),
    )

peer_takes : (words : List (List ℕ)) (command : Command) → peer_of words ≡ Some command → IsCommand command (codes "peer" ∷ words)
unfolding peer_of
peer_takes words command e =
    let k = length words in
    let five = held (option_is 5 (option_count k words)) _ command e in
    let n = bind_some (ranged 1 16 (value_of (codes "nodes") k words)) _ command five.1 in
    let i = bind_some (ranged 0 (n.0 - 1) (value_of (codes "id") k words)) _ command n.2 in
    let w = bind_some (ranged 1 8 (value_of (codes "workers") k words)) _ command i.2 in
    let p = bind_some (ranged 1 (65536 - n.0) (value_of (codes "port") k words)) _ command w.2 in
    let c = bind_some (ranged 1 1000000 (value_of (codes "conns") k words)) _ command p.2 in
    let m : Process = process_of i.0 n.0 w.0 p.0 c.0 in
    let is : Peer m ≡ command = some_same _ command c.2 in
    let read = are_read k words 5 (counted (option_count k words) 5 five.0) in
    let ns = ranged_takes 1 16 _ n.0 n.1 in
    let ids = ranged_takes 0 (n.0 - 1) _ i.0 i.1 in
    let ws = ranged_takes 1 8 _ w.0 w.1 in
    let ps = ranged_takes 1 (65536 - n.0) _ p.0 p.1 in
    let cs = ranged_takes 1 1000000 _ c.0 c.1 in
    let at : (name : List ℕ) (v : ℕ) → value_of name k words ≡ Some v → first_of name read.given ≡ Some v = λ name v h. sym (read.values name) ∙ h in
    let order = found_order (met m) read.given (met_apart m) read.many (
      at (codes "id") i.0 ids.0,
      (at (codes "nodes") n.0 ns.0, (at (codes "workers") w.0 ws.0, (at (codes "port") p.0 ps.0, (at (codes "conns") c.0 cs.0, tt)))),
    ) in
    subst (λ (o : Command). IsCommand o (codes "peer" ∷ words)) is (
      words,
      refl,
      record {
        id_below = (let some = ns.1 in let below = ids.2 in omega (arith, some, below));
        few_nodes = ns.2;
        some_workers = ws.1;
        few_workers = ws.2;
        some_port = ps.1;
        ports_fit = (let few = ns.2 in let below = ps.2 in omega (arith, few, below));
        some_conns = cs.1;
        few_conns = cs.2;
        options = (read.given, order, read.are);
      },
    )

peer_again : (p : Process) (words : List (List ℕ)) → IsPeer p words → peer_of words ≡ Some (Peer p)
unfolding peer_of
peer_again p words is =
    let order = is.options.1 in
    let below = is.id_below in
    let fits = is.ports_fit in
    let all = order_all IsNamed (met p) is.options.0 order (met_named p words is) in
    let again = are_again (length words) is.options.0 words (omega arith) all is.options.2 in
    let found = order_found (met p) is.options.0 (met_apart p) order in
    let five : option_is 5 (option_count (length words) words) ≡ true = ap (option_is 5) (again.counted ∙ ap (λ k. Some k) (order_length (met p) is.options.0 order)) in
    let id = ap (ranged 0 (p.nodes - 1)) (again.values (codes "id") ∙ found.0) ∙ ranged_again 0 (p.nodes - 1) p.id (omega arith) (omega (arith, below)) in
    let nodes = ap (ranged 1 16) (again.values (codes "nodes") ∙ found.1.0) ∙ ranged_again 1 16 p.nodes (omega (arith, below)) is.few_nodes in
    let workers = ap (ranged 1 8) (again.values (codes "workers") ∙ found.1.1.0) ∙ ranged_again 1 8 p.workers is.some_workers is.few_workers in
    let port = ap (ranged 1 (65536 - p.nodes)) (again.values (codes "port") ∙ found.1.1.1.0) ∙ ranged_again 1 (65536 - p.nodes) p.port is.some_port (omega (arith, fits)) in
    let conns = ap (ranged 1 1000000) (again.values (codes "conns") ∙ found.1.1.1.1.0) ∙ ranged_again 1 1000000 p.conns is.some_conns is.few_conns in
    rw five (rw nodes (rw (id, workers, port, conns) refl))

-- ---- watch
abbrev watching : ℕ → List Given
watching w = option (codes "writes") w ∷ []

watching_apart : (w : ℕ) → AreApart (watching w)
watching_apart w = (tt, tt)

watching_named : (w : ℕ) → w < 2 ^ 64 → AllByRecursion IsNamed (watching w)
watching_named w a = ((refl, a), tt)

watch_takes : (words : List (List ℕ)) (command : Command) → watch_of words ≡ Some command → IsCommand command (codes "watch" ∷ words)
unfolding watch_of
watch_takes words command e =
    let n = length words in
    let one = held (option_is 1 (option_count n words)) _ command e in
    let w = bind_some (ranged 1 10000 (value_of (codes "writes") n words)) _ command one.1 in
    let is : Watch w.0 ≡ command = some_same _ command w.2 in
    let read = are_read n words 1 (counted (option_count n words) 1 one.0) in
    let ws = ranged_takes 1 10000 _ w.0 w.1 in
    let a : first_of (codes "writes") read.given ≡ Some w.0 = sym (read.values (codes "writes")) ∙ ws.0 in
    let order = found_order (watching w.0) read.given (watching_apart w.0) read.many (a, tt) in
    subst (λ (k : Command). IsCommand k (codes "watch" ∷ words)) is (
      words,
      refl,
      record {
        some_writes = ws.1;
        few_writes = ws.2;
        options = (read.given, order, read.are);
      },
    )

watch_again : (w : ℕ) (words : List (List ℕ)) → IsWatch w words → watch_of words ≡ Some (Watch w)
unfolding watch_of
watch_again w words is =
    let order = is.options.1 in
    let few = is.few_writes in
    let all = order_all IsNamed (watching w) is.options.0 order (watching_named w (omega (arith, few))) in
    let again = are_again (length words) is.options.0 words (omega arith) all is.options.2 in
    let found = order_found (watching w) is.options.0 (watching_apart w) order in
    let one : option_is 1 (option_count (length words) words) ≡ true = ap (option_is 1) (again.counted ∙ ap (λ k. Some k) (order_length (watching w) is.options.0 order)) in
    let writes = ap (ranged 1 10000) (again.values (codes "writes") ∙ found.0) ∙ ranged_again 1 10000 w is.some_writes is.few_writes in
    rw one (rw writes refl)

-- ---- joint-storm
abbrev jointly : ℕ → ℕ → List Given
jointly w r = option (codes "workers") w ∷ option (codes "reads") r ∷ []

jointly_apart : (w r : ℕ) → AreApart (jointly w r)
jointly_apart w r = (((refl, refl), tt), (tt, tt))

jointly_named : (w r : ℕ) → w < 2 ^ 64 → r < 2 ^ 64 → AllByRecursion IsNamed (jointly w r)
jointly_named w r a b = ((refl, a), ((refl, b), tt))

joint_storm_takes : (words : List (List ℕ)) (command : Command) → joint_storm_of words ≡ Some command → IsCommand command (codes "joint-storm" ∷ words)
unfolding joint_storm_of
joint_storm_takes words command e =
    let n = length words in
    let two = held (option_is 2 (option_count n words)) _ command e in
    let w = bind_some (ranged 1 8 (value_of (codes "workers") n words)) _ command two.1 in
    let r = bind_some (ranged 1 10000 (value_of (codes "reads") n words)) _ command w.2 in
    let is : JointStorm w.0 r.0 ≡ command = some_same _ command r.2 in
    let read = are_read n words 2 (counted (option_count n words) 2 two.0) in
    let ws = ranged_takes 1 8 _ w.0 w.1 in
    let rs = ranged_takes 1 10000 _ r.0 r.1 in
    let a : first_of (codes "workers") read.given ≡ Some w.0 = sym (read.values (codes "workers")) ∙ ws.0 in
    let b : first_of (codes "reads") read.given ≡ Some r.0 = sym (read.values (codes "reads")) ∙ rs.0 in
    let order = found_order (jointly w.0 r.0) read.given (jointly_apart w.0 r.0) read.many (a, (b, tt)) in
    subst (λ (k : Command). IsCommand k (codes "joint-storm" ∷ words)) is (
      words,
      refl,
      record {
        some_workers = ws.1;
        few_workers = ws.2;
        some_reads = rs.1;
        few_reads = rs.2;
        options = (read.given, order, read.are);
      },
    )

joint_storm_again : (w r : ℕ) (words : List (List ℕ)) → IsJointStorm w r words → joint_storm_of words ≡ Some (JointStorm w r)
unfolding joint_storm_of
joint_storm_again w r words is =
    let order = is.options.1 in
    let ws = is.few_workers in
    let rs = is.few_reads in
    let all = order_all IsNamed (jointly w r) is.options.0 order (jointly_named w r (omega (arith, ws)) (omega (arith, rs))) in
    let again = are_again (length words) is.options.0 words (omega arith) all is.options.2 in
    let found = order_found (jointly w r) is.options.0 (jointly_apart w r) order in
    let two : option_is 2 (option_count (length words) words) ≡ true = ap (option_is 2) (again.counted ∙ ap (λ k. Some k) (order_length (jointly w r) is.options.0 order)) in
    let workers = ap (ranged 1 8) (again.values (codes "workers") ∙ found.0) ∙ ranged_again 1 8 w is.some_workers ws in
    let reads = ap (ranged 1 10000) (again.values (codes "reads") ∙ found.1.0) ∙ ranged_again 1 10000 r is.some_reads rs in
    rw two (rw (workers, reads) refl)

-- ---- all commands
alone_takes : (name : Command) (words : List (List ℕ)) (command : Command) → alone name words ≡ Some command → (words ≡ []) × (name ≡ command)
alone_takes name [] command e = (refl, some_same name command e)
alone_takes name (word ∷ words) command e = absurd (no_some command e)

pub command_takes : (words : List (List ℕ)) (command : Command) → command_of words ≡ Some command → IsCommand command words
unfolding command_of
command_takes [] command e = absurd (no_some command e)
command_takes (name ∷ words) command e = elim (chosen (is_text name (codes "drill")) _ _ (Some command) e) [
  | inl drill ↦
      let name_is = text_is name (codes "drill") drill.0 in
      let rest = alone_takes Drill words command drill.1 in
      subst (λ (k : Command). IsCommand k (name ∷ words)) rest.1 (rw (name_is, rest.0) refl)
  | inr behind ↦
      elim (chosen (is_text name (codes "joint")) _ _ (Some command) behind.1) [
        | inl joint ↦
            let name_is = text_is name (codes "joint") joint.0 in
            let rest = alone_takes Joint words command joint.1 in
            subst (λ (k : Command). IsCommand k (name ∷ words)) rest.1 (rw (name_is, rest.0) refl)
        | inr other ↦
            elim (chosen (is_text name (codes "generate")) _ _ (Some command) other.1) [
              | inl g ↦ subst (λ (w : List ℕ). IsCommand command (w ∷ words)) (sym (text_is name (codes "generate") g.0)) (generate_takes words command g.1)
              | inr last ↦
                  elim (chosen (is_text name (codes "storm")) _ _ (Some command) last.1) [
                    | inl t ↦ subst (λ (w : List ℕ). IsCommand command (w ∷ words)) (sym (text_is name (codes "storm") t.0)) (storm_takes words command t.1)
                    | inr lone ↦
                        elim (chosen (is_text name (codes "serve")) _ _ (Some command) lone.1) [
                          | inl s ↦ subst (λ (w : List ℕ). IsCommand command (w ∷ words)) (sym (text_is name (codes "serve") s.0)) (serve_takes words command s.1)
                          | inr more ↦
                              elim (chosen (is_text name (codes "peer")) _ _ (Some command) more.1) [
                                | inl m ↦ subst (λ (w : List ℕ). IsCommand command (w ∷ words)) (sym (text_is name (codes "peer") m.0)) (peer_takes words command m.1)
                                | inr beyond ↦
                                    elim (chosen (is_text name (codes "watch")) _ _ (Some command) beyond.1) [
                                      | inl v ↦ subst (λ (w : List ℕ). IsCommand command (w ∷ words)) (sym (text_is name (codes "watch") v.0)) (watch_takes words command v.1)
                                      | inr rest ↦
                                          let j = held (is_text name (codes "joint-storm")) (joint_storm_of words) command rest.1 in
                                          subst (λ (w : List ℕ). IsCommand command (w ∷ words)) (sym (text_is name (codes "joint-storm") j.0)) (joint_storm_takes words command j.1)
                                    ]
                              ]
                        ]
                  ]
            ]
      ]
]

pub command_again : (words : List (List ℕ)) (command : Command) → IsCommand command words → command_of words ≡ Some command
unfolding command_of
command_again words Drill is = rw is refl
command_again words Joint is = rw is refl
command_again words (Generate s c n) is = ap command_of is.1 ∙ generate_again s c n is.0 is.2
command_again words (Storm opts) is = ap command_of is.1 ∙ storm_again opts is.0 is.2
command_again words (Serve g) is = ap command_of is.1 ∙ serve_again g is.0 is.2
command_again words (Peer p) is = ap command_of is.1 ∙ peer_again p is.0 is.2
command_again words (Watch w) is = ap command_of is.1 ∙ watch_again w is.0 is.2
command_again words (JointStorm w r) is = ap command_of is.1 ∙ joint_storm_again w r is.0 is.2

command_read_at : (o : Option Command) (words : List (List ℕ)) → command_of words ≡ o → IsCommandRead o words
command_read_at (Some command) words e = command_takes words command e
command_read_at None words e = λ command is. no_some command (sym e ∙ command_again words command is)

pub command_read : (o : Option Command) (words : List (List ℕ)) → o ≡ command_of words → IsCommandRead o words
command_read o words e = command_read_at o words (sym e)

pub commands_are_one : WordsTellCommands
commands_are_one words a b x y = some_same a b (sym (command_again words a x) ∙ command_again words b y)
