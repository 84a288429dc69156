-- What options say is one thing.
use Rattle.std.proofs.Common.{◌≡◌, ℕ, ◌<◌, ◌≤◌, ◌^◌, ◌/◌, List, ◌∷◌, ◌++◌, length, Option, Some, None, codes, refl, sym, ap, subst, ◌∙◌, arith}
use Rattle.std.proofs.lemmas.Fmt.{decimal_injective}
use Rattle.hk_inside.specs.declared.inquiry.Leaver.{Leaver}
use Rattle.hk_inside.specs.declared.inquiry.Leaver.TheVariants as leaver
use Rattle.hk_hosts.specs.declared.address.Address.{Address}
use Rattle.hk_hosts.specs.Laws.{TextsAreOfOneAddress}
use Rattle.hk_host_words.specs.declared.words.TheConstants.{INSIDE_PORT, CLIENT_PORT}
use Rattle.hk_host_words.specs.declared.words.GroupWords.{GroupWords}
use Rattle.hk_host_words.specs.declared.words.NodeWords.{NodeWords}
use Rattle.hk_host_words.specs.declared.words.HostCommand.{HostCommand}
use Rattle.hk_host_words.specs.declared.words.HostCommand.TheVariants.{Node, Init, Status, Leave}
use Rattle.hk_host_words.specs.declared.names.OptionName.TheVariants as option
use Rattle.hk_host_words.specs.declared.node.Numbers.{Numbers}
use Rattle.hk_host_words.specs.Options.{Setting, command_text, AreSettings, value_of}
use Rattle.hk_host_words.specs.Words.{IsNumberOf, IsPathOf, IsGroupNameOf, IsPlaceOf, IsInsideOf, IsListenOf, IsLeaverOf, usual_data, IsGroup, IsNode, IsSaid, name_of, WordsTellHostCommands}
use Rattle.hk_host_words.specs.declared.names.CommandName.TheVariants as command
use Rattle.hk_host_words.specs.Reading.{IsSaidBy}
use Rattle.hk_host_words.proofs.HostLists.{few_hosts, same_hosts, of_some, same_address}
use Rattle.hk_host_words.proofs.Taking.{one_command}
use Rattle.hk_host_words.proofs.Coming.{one_list}

pub number_one : (least most usual : ℕ) (o : Option (List ℕ)) (m n : ℕ) → most < 2 ^ 32 → IsNumberOf least most usual o m → IsNumberOf least most usual o n → m ≡ n
number_one least most usual None m n lt a b = a ∙ sym b
number_one least most usual (Some text) m n lt a b = decimal_injective m n (omega (arith, a.2, lt)) (omega (arith, b.2, lt)) (sym a.0 ∙ b.0)

pub path_one : (usual : List ℕ) (o : Option (List ℕ)) (p q : List ℕ) → IsPathOf usual o p → IsPathOf usual o q → p ≡ q
path_one usual None p q a b = a ∙ sym b
path_one usual (Some text) p q a b = a.0 ∙ sym b.0

name_one : (o : Option (List ℕ)) (p q : List ℕ) → IsGroupNameOf o p → IsGroupNameOf o q → p ≡ q
name_one None p q a b = a ∙ sym b
name_one (Some text) p q a b = a.0 ∙ sym b.0

pub place_one : (count : ℕ) (o : Option (List ℕ)) (p q : Option ℕ) → count ≤ 9 → IsPlaceOf count o p → IsPlaceOf count o q → p ≡ q
place_one count None None None le a b = refl
place_one count None None (Some q) le a b = absurd b
place_one count None (Some p) q le a b = absurd a
place_one count (Some text) None q le a b = absurd a
place_one count (Some text) (Some p) None le a b = absurd b
place_one count (Some text) (Some p) (Some q) le a b =
    ap (λ (n : ℕ). Some n) (decimal_injective p q (omega (arith, a.1, le)) (omega (arith, b.1, le)) (sym a.0 ∙ b.0))

abbrev numbered : ℕ → Leaver
numbered n = leaver.Node (record { 0 = n })

leaver_one : (count : ℕ) (at number : Option (List ℕ)) (p q : Leaver) → count ≤ 9 → IsLeaverOf count at number p → IsLeaverOf count at number q → p ≡ q
leaver_one count (Some text) None (leaver.Host p) (leaver.Host q) le a b =
    ap (λ (n : ℕ). leaver.Host n) (decimal_injective p q (omega (arith, a.1, le)) (omega (arith, b.1, le)) (sym a.0 ∙ b.0))
leaver_one count (Some text) None (leaver.Host p) (leaver.Node q) le a b = absurd b
leaver_one count (Some text) None (leaver.Node p) q le a b = absurd a
leaver_one count None (Some text) (leaver.Node p) (leaver.Node q) le a b =
    ap numbered (decimal_injective p.0 q.0 (omega (arith, a.1)) (omega (arith, b.1)) (sym a.0 ∙ b.0))
leaver_one count None (Some text) (leaver.Node p) (leaver.Host q) le a b = absurd b
leaver_one count None (Some text) (leaver.Host p) q le a b = absurd a
leaver_one count None None p q le a b = absurd a
leaver_one count (Some x) (Some y) p q le a b = absurd a

abbrev group_of : List Address → List ℕ → List ℕ → GroupWords
group_of hosts secret name = record { hosts = hosts; secret = secret; group = name }

abbrev node_of : GroupWords → Option ℕ → Address → Address → List ℕ → ℕ → ℕ → ℕ → NodeWords
node_of group at inside listen data' lease skew workers = record { group = group; at = at; inside = inside; listen = listen; «data» = data'; lease = lease; skew = skew; workers = workers }

abbrev pub numbers_of : NodeWords → Numbers
numbers_of n = record { lease = n.lease; skew = n.skew; workers = n.workers }

pub parted : (x y : List ℕ) (xs ys : List (List ℕ)) → ◌≡◌ {A = List (List ℕ)} (x ∷ xs) (y ∷ ys) → (x ≡ y) × (xs ≡ ys)
parted x y xs ys e = (cc, cc)

module _ (one : TextsAreOfOneAddress) where
  pub inside_one : (hosts : List Address) (place : Option ℕ) (o : Option (List ℕ)) (a b : Address) → IsInsideOf hosts place o a → IsInsideOf hosts place o b → a ≡ b
  inside_one hosts (Some place) o a b x y = of_some a b (sym x.0 ∙ y.0)
  inside_one hosts None (Some text) a b x y = one INSIDE_PORT text a b x y
  inside_one hosts None None a b x y = absurd x

  listen_one : (inside : Address) (o : Option (List ℕ)) (a b : Address) → IsListenOf inside o a → IsListenOf inside o b → a ≡ b
  listen_one inside None a b x y = same_address a b (x.0 ∙ sym y.0) (x.1 ∙ sym y.1)
  listen_one inside (Some text) a b x y = one CLIENT_PORT text a b x y

  pub group_one : (folder : List ℕ) (settings : List Setting) (g h : GroupWords) → IsGroup folder settings g → IsGroup folder settings h → g ≡ h
  group_one folder settings g h p q =
      ap (λ (x : List Address). group_of x g.secret g.group) (same_hosts one (value_of option.Hosts settings) g.hosts h.hosts p.hosts_are q.hosts_are)
      ∙ ap (λ (x : List ℕ). group_of h.hosts x g.group) (path_one (folder ++ codes "/secret") (value_of option.Secret settings) g.secret h.secret p.secret_is q.secret_is)
      ∙ ap (group_of h.hosts h.secret) (name_one (value_of option.Group settings) g.group h.group p.name_is q.name_is)

  -- ---- a process, and what is known of it so far
  module _ (settings : List Setting) (n : NodeWords) (q : IsNode settings n) where
    pub data_same : (folder : List ℕ) → IsPathOf usual_data (value_of option.Data settings) folder → n.data ≡ folder
    data_same folder is = path_one usual_data (value_of option.Data settings) n.data folder q.data_is is

    pub group_same : (folder : List ℕ) (g : GroupWords) → IsPathOf usual_data (value_of option.Data settings) folder → IsGroup folder settings g → n.group ≡ g
    group_same folder g is are = group_one folder settings n.group g (subst (λ (f : List ℕ). IsGroup f settings n.group) (data_same folder is) q.group_is) are

    pub at_in : (g : GroupWords) → n.group ≡ g → IsPlaceOf (length g.hosts) (value_of option.At settings) n.at
    at_in g e = subst (λ (x : GroupWords). IsPlaceOf (length x.hosts) (value_of option.At settings) n.at) e q.at_is

    pub at_same : (g : GroupWords) (at : Option ℕ) → n.group ≡ g → IsPlaceOf (length g.hosts) (value_of option.At settings) at → n.at ≡ at
    at_same g at e is =
        let few = (few_hosts (value_of option.Hosts settings) n.group.hosts q.group_is.hosts_are).1 in
        place_one (length n.group.hosts) (value_of option.At settings) n.at at few q.at_is
        (subst (λ (x : GroupWords). IsPlaceOf (length x.hosts) (value_of option.At settings) at) (sym e) is)

    pub inside_in : (g : GroupWords) (at : Option ℕ) → n.group ≡ g → n.at ≡ at → IsInsideOf g.hosts at (value_of option.Inside settings) n.inside
    inside_in g at e f =
        subst (λ (x : Option ℕ). IsInsideOf g.hosts x (value_of option.Inside settings) n.inside) f
        (subst (λ (x : GroupWords). IsInsideOf x.hosts n.at (value_of option.Inside settings) n.inside) e q.inside_is)

    pub inside_same : (g : GroupWords) (at : Option ℕ) (a : Address) → n.group ≡ g → n.at ≡ at → IsInsideOf g.hosts at (value_of option.Inside settings) a → n.inside ≡ a
    inside_same g at a e f is = inside_one g.hosts at (value_of option.Inside settings) n.inside a (inside_in g at e f) is

    pub listen_in : (a : Address) → n.inside ≡ a → IsListenOf a (value_of option.Listen settings) n.listen
    listen_in a e = subst (λ (x : Address). IsListenOf x (value_of option.Listen settings) n.listen) e q.listen_is

  -- ---- what a process says of what is read behind that
  module _ (settings : List Setting) (folder : List ℕ) (g : GroupWords) (is : IsPathOf usual_data (value_of option.Data settings) folder) (are : IsGroup folder settings g) where
    pub at_part : (n : NodeWords) → IsNode settings n → (at : Option ℕ) × IsPlaceOf (length g.hosts) (value_of option.At settings) at
    at_part n q = (n.at, at_in settings n q g (group_same settings n q folder g is are))

    module _ (at : Option ℕ) (placed : IsPlaceOf (length g.hosts) (value_of option.At settings) at) where
      pub inside_part : (n : NodeWords) → IsNode settings n → (a : Address) × IsInsideOf g.hosts at (value_of option.Inside settings) a
      inside_part n q =
          let same : n.group ≡ g = group_same settings n q folder g is are in
          (n.inside, inside_in settings n q g at same (at_same settings n q g at same placed))

      pub listen_part : (i : Address) → IsInsideOf g.hosts at (value_of option.Inside settings) i → (n : NodeWords) → IsNode settings n
          → (a : Address) × IsListenOf i (value_of option.Listen settings) a
      listen_part i within n q =
          let same : n.group ≡ g = group_same settings n q folder g is are in
          (n.listen, listen_in settings n q i (inside_same settings n q g at i same (at_same settings n q g at same placed) within))

  node_one : (settings : List Setting) (m n : NodeWords) → IsNode settings m → IsNode settings n → m ≡ n
  node_one settings m n p q =
      let d : m.data ≡ n.data = data_same settings m p n.data q.data_is in
      let g : m.group ≡ n.group = group_same settings m p n.data n.group q.data_is q.group_is in
      let k : m.at ≡ n.at = at_same settings m p n.group n.at g q.at_is in
      let i : m.inside ≡ n.inside = inside_same settings m p n.group n.at n.inside g k q.inside_is in
      let l : m.listen ≡ n.listen = listen_one n.inside (value_of option.Listen settings) m.listen n.listen (listen_in settings m p n.inside i) q.listen_is in
      let t : m.lease ≡ n.lease = number_one 200 60000 1000 (value_of option.Lease settings) m.lease n.lease (omega arith) p.lease_is q.lease_is in
      let w : m.workers ≡ n.workers = number_one 1 8 1 (value_of option.Workers settings) m.workers n.workers (omega arith) p.workers_is q.workers_is in
      let s : m.skew ≡ n.skew = number_one 0 (n.lease / 8) 10 (value_of option.Skew settings) m.skew n.skew (eighth n.lease (long n.lease (value_of option.Lease settings) q.lease_is))
      (subst (λ (x : ℕ). IsNumberOf 0 (x / 8) 10 (value_of option.Skew settings) m.skew) t p.skew_is) q.skew_is in
      same g k i l d t s w
    where
      long : (n : ℕ) (o : Option (List ℕ)) → IsNumberOf 200 60000 1000 o n → n ≤ 60000
      long n None e = omega (arith, e)
      long n (Some text) e = e.2

      eighth : (n : ℕ) → n ≤ 60000 → n / 8 < 2 ^ 32
      eighth n le = omega (arith, le)

      same : {a b : GroupWords} {c d : Option ℕ} {e f g h : Address} {i j : List ℕ} {k l m n o p : ℕ} → a ≡ b → c ≡ d → e ≡ f → g ≡ h → i ≡ j → k ≡ l → m ≡ n → o ≡ p
          → node_of a c e g i k m o ≡ node_of b d f h j l n p
      same x1 x2 x3 x4 x5 x6 x7 x8 = rw (x1, x2, x3, x4, x5, x6, x7, x8) refl

  -- ---- commands
  one_said : (settings : List Setting) (a b : HostCommand) → name_of a ≡ name_of b → IsSaid settings a → IsSaid settings b → a ≡ b
  one_said settings (Node m) (Node n) e p q = ap (λ (x : NodeWords). Node x) (node_one settings m n p q)
  one_said settings (Init g) (Init h) e p q = ap (λ (x : GroupWords). Init x) (group_one usual_data settings g h p q)
  one_said settings (Status g) (Status h) e p q = ap (λ (x : GroupWords). Status x) (group_one usual_data settings g h p q)
  one_said settings (Leave g v) (Leave h w) e p q =
      let same : g ≡ h = group_one usual_data settings g h p.0 q.0 in
      let few = (few_hosts (value_of option.Hosts settings) h.hosts q.0.hosts_are).1 in
      let who : v ≡ w = leaver_one (length h.hosts) (value_of option.At settings) (value_of option.Node settings) v w few
      (subst (λ (x : GroupWords). IsLeaverOf (length x.hosts) (value_of option.At settings) (value_of option.Node settings) v) same p.1) q.1 in
      ap (λ (x : GroupWords). Leave x v) same ∙ ap (λ (x : Leaver). Leave h x) who
  one_said settings (Node m) (Init h) e p q = cc
  one_said settings (Node m) (Status h) e p q = cc
  one_said settings (Node m) (Leave h w) e p q = cc
  one_said settings (Init g) (Node n) e p q = cc
  one_said settings (Init g) (Status h) e p q = cc
  one_said settings (Init g) (Leave h w) e p q = cc
  one_said settings (Status g) (Node n) e p q = cc
  one_said settings (Status g) (Init h) e p q = cc
  one_said settings (Status g) (Leave h w) e p q = cc
  one_said settings (Leave g v) (Node n) e p q = cc
  one_said settings (Leave g v) (Init h) e p q = cc
  one_said settings (Leave g v) (Status h) e p q = cc

  -- who leaves, behind the group
  pub leave_part : (settings : List Setting) (g : GroupWords) → IsGroup usual_data settings g → (said : HostCommand) → IsSaidBy command.Leave settings said
      → (who : Leaver) × IsLeaverOf (length g.hosts) (value_of option.At settings) (value_of option.Node settings) who
  leave_part settings g are (Leave h who) q =
      (who, subst (λ (x : GroupWords). IsLeaverOf (length x.hosts) (value_of option.At settings) (value_of option.Node settings) who) (group_one usual_data settings h g q.1.0 are) q.1.1)
  leave_part settings g are (Node n) q = absurd (let e = q.0 in cc)
  leave_part settings g are (Init h) q = absurd (let e = q.0 in cc)
  leave_part settings g are (Status h) q = absurd (let e = q.0 in cc)

  pub commands_one : WordsTellHostCommands
  commands_one words a b p q =
      let both = parted (command_text (name_of a)) (command_text (name_of b)) p.options q.options (sym p.words_are ∙ q.words_are) in
      let options : p.settings ≡ q.settings = one_list p.settings q.settings p.options p.options_are (subst (AreSettings q.settings) (sym both.1) q.options_are) in
      one_said q.settings a b (one_command (name_of a) (name_of b) both.0) (subst (λ (s : List Setting). IsSaid s a) options p.is_said) q.is_said
