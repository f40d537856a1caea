-- Addresses as the system has them.
use Rattle.std.specs.Prelude.{Option, Some, None, ◌==◌, if◌then◌else◌}
use Rattle.std.specs.declared.net.socket_addr.SocketAddr.{SocketAddr}
use Rattle.std.specs.declared.net.socket_addr.SocketAddr.TheVariants.{V4, V6}
use Rattle.std.specs.Net.Addr.{ipv4_octets}
use Rattle.std.specs.Net.Socket.{v4_ip, v4_port}
use Rattle.swim_wire.specs.Address.{Address}

-- the address of a member: of IPv4, with a port other than 0
abbrev pub address_in : SocketAddr → Option Address
address_in (V4 a) = if v4_port a == 0 then None else Some (record { ip = ipv4_octets (v4_ip a); port = v4_port a })
address_in (V6 a) = None
