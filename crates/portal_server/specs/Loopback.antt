-- What is bound to accept connections.
use Rattle.std.specs.Prelude.{◌≡◌, ℕ, ◌∷◌, []}
use Rattle.std.specs.Net.Addr.{ipv4_octets}
use Rattle.std.specs.Net.Socket.{v4_ip, v4_port}
use Rattle.std.specs.declared.net.socket_addr.SocketAddrV4.{SocketAddrV4}

-- the address of a port of 127.0.0.1
abbrev pub IsLoopbackAt : ℕ → SocketAddrV4 → Type 0
IsLoopbackAt port address = (ipv4_octets (v4_ip address) ≡ 127 ∷ 0 ∷ 0 ∷ 1 ∷ []) × (v4_port address ≡ port)

-- A listener was bound at that address. `binds` says which one may be bound at an address.
abbrev pub BindsLoopback : {L : Type 0} → (SocketAddrV4 → L → Type 0) → ℕ → L → Type 0
BindsLoopback binds port listener =
    (address : SocketAddrV4) × IsLoopbackAt port address × binds address listener
